-- The operation of a first word: that of its row of the table, but for lines A and F
-- (M68000 Family Programmer's Reference Manual, section 8).
use Rattle.std.specs.Prelude.{ℕ, ◌==◌, ◌&&◌, if◌then◌else◌, List, [], ◌∷◌, length, slice_index}
use Rattle.m68_isa.specs.declared.instructions.Decoded68.{Decoded68}
use Rattle.m68_isa.specs.declared.instructions.Decoded68.TheVariants as Decoded
use Rattle.m68_isa.specs.declared.op.Op68.{Op68}
use Rattle.m68_isa.specs.declared.op.Op68.TheVariants.{Ori, Andi, Subi, Addi, Eori, Cmpi, LogicToCcr, Privileged, BitByNumber, BitByRegister, Movep, MoveByte, MoveLong, MoveaLong, MoveWord, MoveaWord, Negx, Clr, Neg, Not, MoveFromSr, MoveToCcr, Nbcd, LinkLong, Swap, Pea, Ext, MovemToMemory, Tst, Tas, Illegal, MulLong, DivLong, MovemFromMemory, Trap, Link, Unlk, Nop, Rtd, Rts, Trapv, Rtr, Jsr, Jmp, Chk, Lea, ExtByte, Addq, Subq, Scc, Dbcc, BraByte, BraWord, BraLong, BsrByte, BsrWord, BsrLong, BccByte, BccWord, BccLong, Moveq, OrToRegister, OrToMemory, Divu, Divs, Sbcd, SubToRegister, SubToMemory, Suba, Subx, Cmp, Cmpa, Eor, Cmpm, AndToRegister, AndToMemory, Mulu, Muls, Abcd, Exg, AddToRegister, AddToMemory, Adda, Addx, Shift, ShiftMemory, LineA, LineF}
use Rattle.m68_isa.specs.First.{First}
use Rattle.m68_isa.specs.Rows.{Row, row, Section, section}
use Rattle.m68_isa.specs.Decode.{ended, table}
use Rattle.m68_isa.specs.Made.{made}

-- the operations of each section, in the order of the table's rows
abbrev pub operations : List (List Op68)
operations =
    (Ori ∷ Andi ∷ Subi ∷ Addi ∷ Eori ∷ Cmpi ∷ LogicToCcr ∷ Privileged ∷ BitByNumber ∷ [])
    ∷ (BitByRegister ∷ Movep ∷ [])
    ∷ (MoveByte ∷ [])
    ∷ (MoveLong ∷ MoveaLong ∷ [])
    ∷ (MoveWord ∷ MoveaWord ∷ [])
    ∷ (Negx ∷ Clr ∷ Neg ∷ Not ∷ MoveFromSr ∷ MoveToCcr ∷ Privileged ∷ [])
    ∷ (Nbcd ∷ LinkLong ∷ Swap ∷ Pea ∷ Ext ∷ MovemToMemory ∷ [])
    ∷ (Tst ∷ Tas ∷ Illegal ∷ MulLong ∷ DivLong ∷ MovemFromMemory ∷ [])
    ∷ (Trap ∷ Link ∷ Unlk ∷ Privileged ∷ Privileged ∷ Nop ∷ Rtd ∷ Rts ∷ Trapv ∷ Rtr ∷ [])
    ∷ (Jsr ∷ Jmp ∷ [])
    ∷ (Chk ∷ Lea ∷ ExtByte ∷ [])
    ∷ (Addq ∷ Subq ∷ Scc ∷ Dbcc ∷ [])
    ∷ (BraByte ∷ BraWord ∷ BraLong ∷ BsrByte ∷ BsrWord ∷ BsrLong ∷ BccByte ∷ BccWord ∷ BccLong ∷ [])
    ∷ (Moveq ∷ [])
    ∷ (OrToRegister ∷ OrToMemory ∷ Divu ∷ Divs ∷ Sbcd ∷ [])
    ∷ (SubToRegister ∷ SubToMemory ∷ Suba ∷ Subx ∷ [])
    ∷ (Cmp ∷ Cmpa ∷ Eor ∷ Cmpm ∷ [])
    ∷ (AndToRegister ∷ AndToMemory ∷ Mulu ∷ Muls ∷ Abcd ∷ Exg ∷ [])
    ∷ (AddToRegister ∷ AddToMemory ∷ Adda ∷ Addx ∷ [])
    ∷ (Shift ∷ ShiftMemory ∷ [])
    ∷ []

-- the operation of the first row that has the first word
abbrev pub operation_among : List Row → List Op68 → First → Op68
operation_among [] ops f = Illegal
operation_among (row has make ∷ rows) [] f = Illegal
operation_among (row has make ∷ rows) (op ∷ ops) f = if has f then op else operation_among rows ops f

-- the same in a first word's section
abbrev pub operation_in : List Section → List (List Op68) → First → Op68
operation_in [] ops f = Illegal
operation_in (section line has rows ∷ sections) [] f = Illegal
operation_in (section line has rows ∷ sections) (ops ∷ more) f = if (f.line == line) && has f then operation_among rows ops f else operation_in sections more f

abbrev pub operation : First → Op68
operation f = if f.line == 10 then LineA else if f.line == 15 then LineF else operation_in table operations f

-- what the words of an operation are
abbrev pub read : Op68 → First → List ℕ → Decoded68
read LineA f ws = Decoded.LineA (slice_index ws 0)
read LineF f ws = Decoded.LineF
read op f ws = ended (made op f ws) (length ws)
