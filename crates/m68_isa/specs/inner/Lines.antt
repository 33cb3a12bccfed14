-- In which lines of the manual's table the row of an operation stands (M68000 Family Programmer's Reference Manual,
-- section 8: a line is the first word's top four bits).
use Rattle.m68_isa.specs.declared.op.Op68.{Op68}
use Rattle.m68_isa.specs.declared.op.Op68.TheVariants.{Ori, Andi, Subi, Addi, Eori, Cmpi, LogicToCcr, BitByNumber, BitByRegister, Movep, MoveByte, MoveWord, MoveLong, MoveaWord, MoveaLong, Privileged, Illegal, LineA, LineF, Negx, Clr, Neg, Not, MoveFromSr, MoveToCcr, Nbcd, Swap, Pea, Ext, ExtByte, MovemToMemory, MovemFromMemory, MulLong, DivLong, Tst, Tas, Trap, Link, LinkLong, Unlk, Nop, Rtd, Rts, Trapv, Rtr, Jsr, Jmp, Chk, Lea, Addq, Subq, Scc, Dbcc, BraByte, BraWord, BraLong, BsrByte, BsrWord, BsrLong, BccByte, BccWord, BccLong, Moveq, OrToRegister, OrToMemory, Divu, Divs, Sbcd}

-- in line 4 or further down
abbrev pub IsFromLine4 : Op68 → Type 0
IsFromLine4 Ori = ⊥
IsFromLine4 Andi = ⊥
IsFromLine4 Subi = ⊥
IsFromLine4 Addi = ⊥
IsFromLine4 Eori = ⊥
IsFromLine4 Cmpi = ⊥
IsFromLine4 LogicToCcr = ⊥
IsFromLine4 BitByNumber = ⊥
IsFromLine4 BitByRegister = ⊥
IsFromLine4 Movep = ⊥
IsFromLine4 MoveByte = ⊥
IsFromLine4 MoveWord = ⊥
IsFromLine4 MoveLong = ⊥
IsFromLine4 MoveaWord = ⊥
IsFromLine4 MoveaLong = ⊥
IsFromLine4 Privileged = ⊥
IsFromLine4 Illegal = ⊥
IsFromLine4 LineA = ⊥
IsFromLine4 LineF = ⊥
IsFromLine4 op = Unit {0}

-- in line 4 from 4A00, whose first operation is a test, or further down
abbrev pub IsFromTest : Op68 → Type 0
IsFromTest Negx = ⊥
IsFromTest Clr = ⊥
IsFromTest Neg = ⊥
IsFromTest Not = ⊥
IsFromTest MoveFromSr = ⊥
IsFromTest MoveToCcr = ⊥
IsFromTest Nbcd = ⊥
IsFromTest Swap = ⊥
IsFromTest Pea = ⊥
IsFromTest Ext = ⊥
IsFromTest ExtByte = ⊥
IsFromTest MovemToMemory = ⊥
IsFromTest op = IsFromLine4 op

-- in line 5 or further down
abbrev pub IsFromLine5 : Op68 → Type 0
IsFromLine5 Tst = ⊥
IsFromLine5 Tas = ⊥
IsFromLine5 MulLong = ⊥
IsFromLine5 DivLong = ⊥
IsFromLine5 MovemFromMemory = ⊥
IsFromLine5 Trap = ⊥
IsFromLine5 Link = ⊥
IsFromLine5 LinkLong = ⊥
IsFromLine5 Unlk = ⊥
IsFromLine5 Nop = ⊥
IsFromLine5 Rtd = ⊥
IsFromLine5 Rts = ⊥
IsFromLine5 Trapv = ⊥
IsFromLine5 Rtr = ⊥
IsFromLine5 Jsr = ⊥
IsFromLine5 Jmp = ⊥
IsFromLine5 Chk = ⊥
IsFromLine5 Lea = ⊥
IsFromLine5 op = IsFromTest op

-- in line 9 or further down
abbrev pub IsFromLine9 : Op68 → Type 0
IsFromLine9 Addq = ⊥
IsFromLine9 Subq = ⊥
IsFromLine9 Scc = ⊥
IsFromLine9 Dbcc = ⊥
IsFromLine9 BraByte = ⊥
IsFromLine9 BraWord = ⊥
IsFromLine9 BraLong = ⊥
IsFromLine9 BsrByte = ⊥
IsFromLine9 BsrWord = ⊥
IsFromLine9 BsrLong = ⊥
IsFromLine9 BccByte = ⊥
IsFromLine9 BccWord = ⊥
IsFromLine9 BccLong = ⊥
IsFromLine9 Moveq = ⊥
IsFromLine9 OrToRegister = ⊥
IsFromLine9 OrToMemory = ⊥
IsFromLine9 Divu = ⊥
IsFromLine9 Divs = ⊥
IsFromLine9 Sbcd = ⊥
IsFromLine9 op = IsFromLine5 op
