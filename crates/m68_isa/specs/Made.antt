-- What each operation makes of a first word's parts and of the words: what its row makes
-- (M68000 Family Programmer's Reference Manual, section 8).
use Rattle.std.specs.Prelude.{ℕ, ◌+◌, ◌*◌, ◌%◌, ◌==◌, nat_lt, true, false, List}
use Rattle.mix_bits.specs.Sizes.{sign_extended}
use Rattle.mix_bits.specs.declared.size.Size.TheVariants.{One, Two, Four}
use Rattle.m68_isa.specs.declared.instructions.ImmediateOp.TheVariants as ImmediateBy
use Rattle.m68_isa.specs.declared.instructions.PlainOp.TheVariants as PlainBy
use Rattle.m68_isa.specs.declared.instructions.JumpOp.TheVariants as JumpBy
use Rattle.m68_isa.specs.declared.instructions.QuickOp.TheVariants as QuickBy
use Rattle.m68_isa.specs.declared.instructions.Instr68.TheVariants as Instr
use Rattle.m68_isa.specs.declared.found.Found.{Found}
use Rattle.m68_isa.specs.declared.found.Found.TheVariants as Row
use Rattle.m68_isa.specs.declared.op.Op68.{Op68}
use Rattle.m68_isa.specs.declared.op.Op68.TheVariants.{Ori, Andi, Subi, Addi, Eori, Cmpi, LogicToCcr, BitByNumber, BitByRegister, Movep, MoveByte, MoveWord, MoveLong, MoveaWord, MoveaLong, Negx, Clr, Neg, Not, MoveFromSr, MoveToCcr, Nbcd, Swap, Pea, Ext, ExtByte, MovemToMemory, MovemFromMemory, MulLong, DivLong, Tst, Tas, Trap, Link, LinkLong, Unlk, Nop, Rtd, Rts, Trapv, Rtr, Jsr, Jmp, Chk, Lea, Addq, Subq, Scc, Dbcc, BraByte, BraWord, BraLong, BsrByte, BsrWord, BsrLong, BccByte, BccWord, BccLong, Moveq, OrToRegister, OrToMemory, Divu, Divs, Sbcd, SubToRegister, SubToMemory, Suba, Subx, Cmp, Cmpa, Eor, Cmpm, AndToRegister, AndToMemory, Mulu, Muls, Abcd, Exg, AddToRegister, AddToMemory, Adda, Addx, Shift, ShiftMemory, Privileged}
use Rattle.m68_isa.specs.First.{First, size_of, long_or_word, low_byte, condition_of, one_to_eight}
use Rattle.m68_isa.specs.Operands.{extended_word, immediate_at, long_at}
use Rattle.m68_isa.specs.Rows.{words, one, sized}
use Rattle.m68_isa.specs.Immediates.{logic_op, immediate_with, bit_by_number, bit_by_register}
use Rattle.m68_isa.specs.Moves.{moved_of}
use Rattle.m68_isa.specs.Miscellaneous.{masked}
use Rattle.m68_isa.specs.Products.{by_registers}
use Rattle.m68_isa.specs.Branches.{branch_byte, branch_word, branch_long}
use Rattle.m68_isa.specs.Arithmetic.{at_long_or_word, exchange}
use Rattle.m68_isa.specs.Shifts.{shift_op, shift_count}

-- an operation without a row makes nothing
abbrev pub made : Op68 → First → List ℕ → Found
made Ori f ws = immediate_with ImmediateBy.Ori f ws
made Andi f ws = immediate_with ImmediateBy.Andi f ws
made Subi f ws = immediate_with ImmediateBy.Subi f ws
made Addi f ws = immediate_with ImmediateBy.Addi f ws
made Eori f ws = immediate_with ImmediateBy.Eori f ws
made Cmpi f ws = immediate_with ImmediateBy.Cmpi f ws
made LogicToCcr f ws = words 2 (Instr.ImmediateToCcr (logic_op f.upper) (immediate_at ws 1 One))
made BitByNumber f ws = bit_by_number f ws
made BitByRegister f ws = bit_by_register f ws
made Movep f ws = words 2 (Instr.Movep (long_or_word (f.size % 2)) (nat_lt 1 f.size) f.upper f.lower (extended_word ws 1))
made MoveByte f ws = moved_of One f ws
made MoveWord f ws = moved_of Two f ws
made MoveLong f ws = moved_of Four f ws
made MoveaWord f ws = one (λ e. Instr.Movea Two e f.upper) Two f ws
made MoveaLong f ws = one (λ e. Instr.Movea Four e f.upper) Four f ws
made Negx f ws = sized Instr.Negx f ws
made Clr f ws = sized Instr.Clr f ws
made Neg f ws = sized Instr.Neg f ws
made Not f ws = sized Instr.Not f ws
made MoveFromSr f ws = one Instr.MoveFromSr Two f ws
made MoveToCcr f ws = one Instr.MoveToCcr Two f ws
made Nbcd f ws = one Instr.Nbcd One f ws
made Swap f ws = words 1 (Instr.Swap f.lower)
made Pea f ws = one Instr.Pea Four f ws
made Ext f ws = words 1 (Instr.Ext (long_or_word (f.size % 2)) f.lower)
made ExtByte f ws = words 1 (Instr.ExtByte f.lower)
made MovemToMemory f ws = masked Instr.MovemToMemory f ws
made MovemFromMemory f ws = masked Instr.MovemFromMemory f ws
made MulLong f ws = by_registers Instr.MulLong f ws
made DivLong f ws = by_registers Instr.DivLong f ws
made Tst f ws = sized Instr.Tst f ws
made Tas f ws = one Instr.Tas One f ws
made Trap f ws = words 1 (Instr.Trap (f.mode * 8 + f.lower))
made Link f ws = words 2 (Instr.Link f.lower (extended_word ws 1))
made LinkLong f ws = words 3 (Instr.LinkLong f.lower (long_at ws 1))
made Unlk f ws = words 1 (Instr.Unlk f.lower)
made Nop f ws = words 1 (Instr.Plain PlainBy.Nop)
made Rtd f ws = words 2 (Instr.Rtd (extended_word ws 1))
made Rts f ws = words 1 (Instr.Plain PlainBy.Rts)
made Trapv f ws = words 1 Instr.Trapv
made Rtr f ws = words 1 Instr.Rtr
made Jsr f ws = one (Instr.Jump JumpBy.Jsr) Four f ws
made Jmp f ws = one (Instr.Jump JumpBy.Jmp) Four f ws
made Chk f ws = one (λ e. Instr.Chk e f.upper) Two f ws
made Lea f ws = one (λ e. Instr.Lea e f.upper) Four f ws
made Addq f ws = sized (λ s e. Instr.Quick QuickBy.Addq s (one_to_eight f.upper) e) f ws
made Subq f ws = sized (λ s e. Instr.Quick QuickBy.Subq s (one_to_eight f.upper) e) f ws
made Scc f ws = one (Instr.Scc (condition_of f)) One f ws
made Dbcc f ws = words 2 (Instr.Dbcc (condition_of f) f.lower (extended_word ws 1))
made BraByte f ws = branch_byte 0 f
made BraWord f ws = branch_word 0 ws
made BraLong f ws = branch_long 0 ws
made BsrByte f ws = branch_byte 1 f
made BsrWord f ws = branch_word 1 ws
made BsrLong f ws = branch_long 1 ws
made BccByte f ws = branch_byte (condition_of f) f
made BccWord f ws = branch_word (condition_of f) ws
made BccLong f ws = branch_long (condition_of f) ws
made Moveq f ws = words 1 (Instr.Moveq (sign_extended (low_byte f) One) f.upper)
made OrToRegister f ws = sized (λ s e. Instr.Or s false f.upper e) f ws
made OrToMemory f ws = sized (λ s e. Instr.Or s true f.upper e) f ws
made Divu f ws = one (λ e. Instr.Div false e f.upper) Two f ws
made Divs f ws = one (λ e. Instr.Div true e f.upper) Two f ws
made Sbcd f ws = words 1 (Instr.Sbcd (f.mode == 1) f.lower f.upper)
made SubToRegister f ws = sized (λ s e. Instr.Sub s false f.upper e) f ws
made SubToMemory f ws = sized (λ s e. Instr.Sub s true f.upper e) f ws
made Suba f ws = at_long_or_word (λ s e. Instr.Suba s e f.upper) f ws
made Subx f ws = words 1 (Instr.Subx (size_of f.size) (f.mode == 1) f.lower f.upper)
made Cmp f ws = sized (λ s e. Instr.Cmp s e f.upper) f ws
made Cmpa f ws = at_long_or_word (λ s e. Instr.Cmpa s e f.upper) f ws
made Eor f ws = sized (λ s e. Instr.Eor s f.upper e) f ws
made Cmpm f ws = words 1 (Instr.Cmpm (size_of f.size) f.lower f.upper)
made AndToRegister f ws = sized (λ s e. Instr.And s false f.upper e) f ws
made AndToMemory f ws = sized (λ s e. Instr.And s true f.upper e) f ws
made Mulu f ws = one (λ e. Instr.Mul false e f.upper) Two f ws
made Muls f ws = one (λ e. Instr.Mul true e f.upper) Two f ws
made Abcd f ws = words 1 (Instr.Abcd (f.mode == 1) f.lower f.upper)
made Exg f ws = words 1 (Instr.Exg (exchange f) f.upper f.lower)
made AddToRegister f ws = sized (λ s e. Instr.Add s false f.upper e) f ws
made AddToMemory f ws = sized (λ s e. Instr.Add s true f.upper e) f ws
made Adda f ws = at_long_or_word (λ s e. Instr.Adda s e f.upper) f ws
made Addx f ws = words 1 (Instr.Addx (size_of f.size) (f.mode == 1) f.lower f.upper)
made Shift f ws = words 1 (Instr.Shift (shift_op (f.mode % 4)) (f.bit8 == 1) (size_of f.size) (shift_count f) f.lower)
made ShiftMemory f ws = one (Instr.ShiftMemory (shift_op f.upper) (f.bit8 == 1)) Two f ws
made Privileged f ws = Row.Privileged
made op f ws = Row.Illegal
