-- What the row of an operation asks of the first word, where what the operation does needs it
-- (M68000 Family Programmer's Reference Manual, section 8).
use Rattle.std.specs.Prelude.{ℕ, ◌≡◌, ◌≢◌, ◌<◌, ◌≤◌, ◌==◌, ◌||◌, true}
use Rattle.m68_isa.specs.declared.op.Op68.{Op68}
use Rattle.m68_isa.specs.declared.op.Op68.TheVariants.{Ori, Andi, Subi, Addi, Eori, Cmpi, LogicToCcr, BitByNumber, BitByRegister, Movep, MoveByte, MoveWord, MoveLong, MoveaWord, MoveaLong, Negx, Clr, Neg, Not, MoveFromSr, MoveToCcr, Nbcd, Swap, Pea, Ext, ExtByte, MovemToMemory, MovemFromMemory, MulLong, DivLong, Tst, Tas, Trap, Link, LinkLong, Unlk, Nop, Rtd, Rts, Trapv, Rtr, Jsr, Jmp, Chk, Lea, Addq, Subq, Scc, Dbcc, BraByte, BraWord, BraLong, BsrByte, BsrWord, BsrLong, BccByte, BccWord, BccLong, Moveq, OrToRegister, OrToMemory, Divu, Divs, Sbcd, SubToRegister, SubToMemory, Suba, Subx, Cmp, Cmpa, Eor, Cmpm, AndToRegister, AndToMemory, Mulu, Muls, Abcd, Exg, AddToRegister, AddToMemory, Adda, Addx, Shift, ShiftMemory, Illegal, Privileged, LineA, LineF}
use Rattle.m68_isa.specs.ClassesClauses.{IsAlterable}
use Rattle.m68_isa.specs.Classes.{in_class}
use Rattle.m68_isa.specs.Classes.Class.{Control, ControlAlterable}
use Rattle.m68_isa.specs.First.{first_of, condition_of}
use Rattle.m68_isa.specs.Moves.{move_mode}

-- the operand of the first word's low six bits may be written
abbrev pub IsChangeable : ℕ → Type 0
IsChangeable w = IsAlterable (first_of w).mode (first_of w).lower

-- the same unless a single bit is only tested
abbrev pub IsBitChangeable : ℕ → Type 0
IsBitChangeable w = (first_of w).size ≢ 0 → IsChangeable w

-- the destination of a move may be written
abbrev pub IsDestination : ℕ → Type 0
IsDestination w = IsAlterable (move_mode (first_of w)) (first_of w).upper

-- its modes or its conditions; the other rows ask for nothing
abbrev pub Fits : Op68 → ℕ → Type 0
Fits Ori w = IsChangeable w
Fits Andi w = IsChangeable w
Fits Subi w = IsChangeable w
Fits Addi w = IsChangeable w
Fits Eori w = IsChangeable w
Fits Cmpi w = Unit {0}
Fits LogicToCcr w = Unit {0}
Fits BitByNumber w = IsBitChangeable w
Fits BitByRegister w = IsBitChangeable w
Fits Movep w = Unit {0}
Fits MoveByte w = IsDestination w
Fits MoveWord w = IsDestination w
Fits MoveLong w = IsDestination w
Fits MoveaWord w = Unit {0}
Fits MoveaLong w = Unit {0}
Fits Negx w = IsChangeable w
Fits Clr w = IsChangeable w
Fits Neg w = IsChangeable w
Fits Not w = IsChangeable w
Fits MoveFromSr w = IsChangeable w
Fits MoveToCcr w = Unit {0}
Fits Nbcd w = IsChangeable w
Fits Swap w = Unit {0}
Fits Pea w = in_class Control (first_of w).mode (first_of w).lower ≡ true
Fits Ext w = Unit {0}
Fits ExtByte w = Unit {0}
Fits MovemToMemory w = (in_class ControlAlterable (first_of w).mode (first_of w).lower || ((first_of w).mode == 4)) ≡ true
Fits MovemFromMemory w = (in_class Control (first_of w).mode (first_of w).lower || ((first_of w).mode == 3)) ≡ true
Fits MulLong w = Unit {0}
Fits DivLong w = Unit {0}
Fits Tst w = Unit {0}
Fits Tas w = IsChangeable w
Fits Trap w = (first_of w).mode < 2
Fits Link w = Unit {0}
Fits LinkLong w = Unit {0}
Fits Unlk w = Unit {0}
Fits Nop w = Unit {0}
Fits Rtd w = Unit {0}
Fits Rts w = Unit {0}
Fits Trapv w = Unit {0}
Fits Rtr w = Unit {0}
Fits Jsr w = in_class Control (first_of w).mode (first_of w).lower ≡ true
Fits Jmp w = in_class Control (first_of w).mode (first_of w).lower ≡ true
Fits Chk w = Unit {0}
Fits Lea w = in_class Control (first_of w).mode (first_of w).lower ≡ true
Fits Addq w = IsChangeable w
Fits Subq w = IsChangeable w
Fits Scc w = IsChangeable w
Fits Dbcc w = Unit {0}
Fits BraByte w = Unit {0}
Fits BraWord w = Unit {0}
Fits BraLong w = Unit {0}
Fits BsrByte w = Unit {0}
Fits BsrWord w = Unit {0}
Fits BsrLong w = Unit {0}
Fits BccByte w = 2 ≤ condition_of (first_of w)
Fits BccWord w = 2 ≤ condition_of (first_of w)
Fits BccLong w = 2 ≤ condition_of (first_of w)
Fits Moveq w = Unit {0}
Fits OrToRegister w = Unit {0}
Fits OrToMemory w = IsChangeable w
Fits Divu w = Unit {0}
Fits Divs w = Unit {0}
Fits Sbcd w = Unit {0}
Fits SubToRegister w = Unit {0}
Fits SubToMemory w = IsChangeable w
Fits Suba w = Unit {0}
Fits Subx w = Unit {0}
Fits Cmp w = Unit {0}
Fits Cmpa w = Unit {0}
Fits Eor w = IsChangeable w
Fits Cmpm w = Unit {0}
Fits AndToRegister w = Unit {0}
Fits AndToMemory w = IsChangeable w
Fits Mulu w = Unit {0}
Fits Muls w = Unit {0}
Fits Abcd w = Unit {0}
Fits Exg w = Unit {0}
Fits AddToRegister w = Unit {0}
Fits AddToMemory w = IsChangeable w
Fits Adda w = Unit {0}
Fits Addx w = Unit {0}
Fits Shift w = Unit {0}
Fits ShiftMemory w = IsChangeable w
Fits Illegal w = Unit {0}
Fits Privileged w = Unit {0}
Fits LineA w = Unit {0}
Fits LineF w = Unit {0}
