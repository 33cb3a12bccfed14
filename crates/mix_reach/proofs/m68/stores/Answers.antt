use Rattle.std.proofs.Common.{◌≡◌, ◌∙◌, refl}
use Rattle.m68_isa.specs.declared.instructions.Instr68.{Instr68}
use Rattle.m68_isa.specs.declared.instructions.Instr68.TheVariants.{Immediate, ImmediateToCcr, BitByRegister, BitByNumber, Movep, Move, Movea, Negx, Clr, Neg, Not, MoveFromSr, MoveToCcr, Nbcd, Swap, Pea, Ext, ExtByte, MovemToMemory, MovemFromMemory, MulLong, DivLong, Tst, Tas, Trap, Link, LinkLong, Unlk, Plain, Rtd, Trapv, Rtr, Jump, Chk, Lea, Quick, Scc, Dbcc, Bcc, BccLong, Moveq, Or, Div, Sbcd, Sub, Suba, Subx, Cmp, Cmpa, Eor, Cmpm, And, Mul, Abcd, Exg, Add, Adda, Addx, Shift, ShiftMemory}
use Rattle.mix_reach.specs.laws.Ranges.{nothing}
use Rattle.mix_reach.specs.laws.Rows68.{stores}
use Rattle.mix_reach.proofs.m68.stores.Goals as goal

-- no other row stores
pub returns-in_default : goal.returns-in_default
returns-in_default c =
    c.nothing.ensures
    ∙ elim c.args.instruction as (λ (i : Instr68). c.args.instruction ≡ i → nothing ≡ stores c.args.regs.now i) [
      | Immediate op size value to ↦ λ is. absurd (c.in_default.not-Immediate op size value to is)
      | ImmediateToCcr op value ↦ λ is. refl
      | BitByRegister op register to ↦ λ is. absurd (c.in_default.not-BitByRegister op register to is)
      | BitByNumber op bit to ↦ λ is. absurd (c.in_default.not-BitByNumber op bit to is)
      | Movep size to_memory register base disp ↦ λ is. absurd (c.in_default.not-Movep size to_memory register base disp is)
      | Move size from to ↦ λ is. absurd (c.in_default.not-Move size from to is)
      | Movea size from to ↦ λ is. refl
      | Negx size to ↦ λ is. absurd (c.in_default.not-Negx size to is)
      | Clr size to ↦ λ is. absurd (c.in_default.not-Clr size to is)
      | Neg size to ↦ λ is. absurd (c.in_default.not-Neg size to is)
      | Not size to ↦ λ is. absurd (c.in_default.not-Not size to is)
      | MoveFromSr to ↦ λ is. absurd (c.in_default.not-MoveFromSr to is)
      | MoveToCcr from ↦ λ is. refl
      | Nbcd to ↦ λ is. absurd (c.in_default.not-Nbcd to is)
      | Swap register ↦ λ is. refl
      | Pea from ↦ λ is. absurd (c.in_default.not-Pea from is)
      | Ext size register ↦ λ is. refl
      | ExtByte register ↦ λ is. refl
      | MovemToMemory size mask to ↦ λ is. absurd (c.in_default.not-MovemToMemory size mask to is)
      | MovemFromMemory size mask from ↦ λ is. refl
      | MulLong signed wide by high low ↦ λ is. refl
      | DivLong signed wide by high low ↦ λ is. refl
      | Tst size of ↦ λ is. refl
      | Tas to ↦ λ is. absurd (c.in_default.not-Tas to is)
      | Trap number ↦ λ is. refl
      | Link register disp ↦ λ is. absurd (c.in_default.not-Link register disp is)
      | LinkLong register disp ↦ λ is. absurd (c.in_default.not-LinkLong register disp is)
      | Unlk register ↦ λ is. refl
      | Plain op ↦ λ is. refl
      | Rtd disp ↦ λ is. refl
      | Trapv ↦ λ is. refl
      | Rtr ↦ λ is. refl
      | Jump op to ↦ λ is. absurd (c.in_default.not-Jump op to is)
      | Chk bound register ↦ λ is. refl
      | Lea from to ↦ λ is. refl
      | Quick op size number to ↦ λ is. absurd (c.in_default.not-Quick op size number to is)
      | Scc condition to ↦ λ is. absurd (c.in_default.not-Scc condition to is)
      | Dbcc condition register disp ↦ λ is. refl
      | Bcc condition disp ↦ λ is. absurd (c.in_default.not-Bcc condition disp is)
      | BccLong condition disp ↦ λ is. absurd (c.in_default.not-BccLong condition disp is)
      | Moveq value to ↦ λ is. refl
      | Or size to_memory register operand ↦ λ is. absurd (c.in_default.not-Or size to_memory register operand is)
      | Div signed by register ↦ λ is. refl
      | Sbcd memory from to ↦ λ is. absurd (c.in_default.not-Sbcd memory from to is)
      | Sub size to_memory register operand ↦ λ is. absurd (c.in_default.not-Sub size to_memory register operand is)
      | Suba size from to ↦ λ is. refl
      | Subx size memory from to ↦ λ is. absurd (c.in_default.not-Subx size memory from to is)
      | Cmp size with register ↦ λ is. refl
      | Cmpa size with register ↦ λ is. refl
      | Eor size register to ↦ λ is. absurd (c.in_default.not-Eor size register to is)
      | Cmpm size from to ↦ λ is. refl
      | And size to_memory register operand ↦ λ is. absurd (c.in_default.not-And size to_memory register operand is)
      | Mul signed by register ↦ λ is. refl
      | Abcd memory from to ↦ λ is. absurd (c.in_default.not-Abcd memory from to is)
      | Exg kind upper lower ↦ λ is. refl
      | Add size to_memory register operand ↦ λ is. absurd (c.in_default.not-Add size to_memory register operand is)
      | Adda size from to ↦ λ is. refl
      | Addx size memory from to ↦ λ is. absurd (c.in_default.not-Addx size memory from to is)
      | Shift op left size count register ↦ λ is. refl
      | ShiftMemory op left to ↦ λ is. absurd (c.in_default.not-ShiftMemory op left to is)
    ] refl
