use Rattle.std.proofs.Common.{◌≡◌, true, refl}
use Rattle.m68_isa.specs.declared.op.Op68.{Op68}
use Rattle.m68_isa.specs.declared.op.Op68.TheVariants.{Ori, Andi, Subi, Addi, Eori, Cmpi, LogicToCcr, BitByNumber, BitByRegister, Movep, MoveByte, MoveWord, MoveLong, MoveaWord, MoveaLong, Negx, Clr, Neg, Not, MoveFromSr, MoveToCcr, Nbcd, Swap, Pea, Ext, ExtByte, MovemToMemory, MovemFromMemory, MulLong, DivLong, Tst, Tas, Trap, Link, LinkLong, Unlk, Nop, Rtd, Rts, Trapv, Rtr, Jsr, Jmp, Chk, Lea, Addq, Subq, Scc, Dbcc, BraByte, BraWord, BraLong, BsrByte, BsrWord, BsrLong, BccByte, BccWord, BccLong, Moveq, OrToRegister, OrToMemory, Divu, Divs, Sbcd, SubToRegister, SubToMemory, Suba, Subx, Cmp, Cmpa, Eor, Cmpm, AndToRegister, AndToMemory, Mulu, Muls, Abcd, Exg, AddToRegister, AddToMemory, Adda, Addx, Shift, ShiftMemory, Illegal, Privileged, LineA, LineF}
use Rattle.m68_isa.specs.First.{first_of}
use Rattle.mix_reach.specs.inner.Quick.{keeps_memory}
use Rattle.mix_reach.proofs.quick.keeps_memory.Goals as goal

-- every other operation keeps memory
pub returns-in_default : goal.returns-in_default
returns-in_default c =
    elim c.args.op as (λ (o : Op68). c.args.op ≡ o → true ≡ keeps_memory o (first_of c.args.word)) [
      | Ori ↦ λ is. absurd (c.in_default.not-Ori is)
      | Andi ↦ λ is. absurd (c.in_default.not-Andi is)
      | Subi ↦ λ is. absurd (c.in_default.not-Subi is)
      | Addi ↦ λ is. absurd (c.in_default.not-Addi is)
      | Eori ↦ λ is. absurd (c.in_default.not-Eori is)
      | Cmpi ↦ λ is. absurd (c.in_default.not-Cmpi is)
      | LogicToCcr ↦ λ is. refl
      | BitByNumber ↦ λ is. absurd (c.in_default.not-BitByNumber is)
      | BitByRegister ↦ λ is. absurd (c.in_default.not-BitByRegister is)
      | Movep ↦ λ is. absurd (c.in_default.not-Movep is)
      | MoveByte ↦ λ is. absurd (c.in_default.not-MoveByte is)
      | MoveWord ↦ λ is. absurd (c.in_default.not-MoveWord is)
      | MoveLong ↦ λ is. absurd (c.in_default.not-MoveLong is)
      | MoveaWord ↦ λ is. refl
      | MoveaLong ↦ λ is. refl
      | Negx ↦ λ is. absurd (c.in_default.not-Negx is)
      | Clr ↦ λ is. absurd (c.in_default.not-Clr is)
      | Neg ↦ λ is. absurd (c.in_default.not-Neg is)
      | Not ↦ λ is. absurd (c.in_default.not-Not is)
      | MoveFromSr ↦ λ is. absurd (c.in_default.not-MoveFromSr is)
      | MoveToCcr ↦ λ is. refl
      | Nbcd ↦ λ is. absurd (c.in_default.not-Nbcd is)
      | Swap ↦ λ is. refl
      | Pea ↦ λ is. absurd (c.in_default.not-Pea is)
      | Ext ↦ λ is. refl
      | ExtByte ↦ λ is. refl
      | MovemToMemory ↦ λ is. absurd (c.in_default.not-MovemToMemory is)
      | MovemFromMemory ↦ λ is. refl
      | MulLong ↦ λ is. refl
      | DivLong ↦ λ is. refl
      | Tst ↦ λ is. refl
      | Tas ↦ λ is. absurd (c.in_default.not-Tas is)
      | Trap ↦ λ is. refl
      | Link ↦ λ is. absurd (c.in_default.not-Link is)
      | LinkLong ↦ λ is. absurd (c.in_default.not-LinkLong is)
      | Unlk ↦ λ is. refl
      | Nop ↦ λ is. refl
      | Rtd ↦ λ is. refl
      | Rts ↦ λ is. refl
      | Trapv ↦ λ is. refl
      | Rtr ↦ λ is. refl
      | Jsr ↦ λ is. absurd (c.in_default.not-Jsr is)
      | Jmp ↦ λ is. refl
      | Chk ↦ λ is. refl
      | Lea ↦ λ is. refl
      | Addq ↦ λ is. absurd (c.in_default.not-Addq is)
      | Subq ↦ λ is. absurd (c.in_default.not-Subq is)
      | Scc ↦ λ is. absurd (c.in_default.not-Scc is)
      | Dbcc ↦ λ is. refl
      | BraByte ↦ λ is. refl
      | BraWord ↦ λ is. refl
      | BraLong ↦ λ is. refl
      | BsrByte ↦ λ is. absurd (c.in_default.not-BsrByte is)
      | BsrWord ↦ λ is. absurd (c.in_default.not-BsrWord is)
      | BsrLong ↦ λ is. absurd (c.in_default.not-BsrLong is)
      | BccByte ↦ λ is. refl
      | BccWord ↦ λ is. refl
      | BccLong ↦ λ is. refl
      | Moveq ↦ λ is. refl
      | OrToRegister ↦ λ is. refl
      | OrToMemory ↦ λ is. absurd (c.in_default.not-OrToMemory is)
      | Divu ↦ λ is. refl
      | Divs ↦ λ is. refl
      | Sbcd ↦ λ is. absurd (c.in_default.not-Sbcd is)
      | SubToRegister ↦ λ is. refl
      | SubToMemory ↦ λ is. absurd (c.in_default.not-SubToMemory is)
      | Suba ↦ λ is. refl
      | Subx ↦ λ is. absurd (c.in_default.not-Subx is)
      | Cmp ↦ λ is. refl
      | Cmpa ↦ λ is. refl
      | Eor ↦ λ is. absurd (c.in_default.not-Eor is)
      | Cmpm ↦ λ is. refl
      | AndToRegister ↦ λ is. refl
      | AndToMemory ↦ λ is. absurd (c.in_default.not-AndToMemory is)
      | Mulu ↦ λ is. refl
      | Muls ↦ λ is. refl
      | Abcd ↦ λ is. absurd (c.in_default.not-Abcd is)
      | Exg ↦ λ is. refl
      | AddToRegister ↦ λ is. refl
      | AddToMemory ↦ λ is. absurd (c.in_default.not-AddToMemory is)
      | Adda ↦ λ is. refl
      | Addx ↦ λ is. absurd (c.in_default.not-Addx is)
      | Shift ↦ λ is. refl
      | ShiftMemory ↦ λ is. absurd (c.in_default.not-ShiftMemory is)
      | Illegal ↦ λ is. refl
      | Privileged ↦ λ is. refl
      | LineA ↦ λ is. absurd (c.in_default.not-LineA is)
      | LineF ↦ λ is. refl
    ] refl
