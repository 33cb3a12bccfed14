-- Displacements, short addresses and small numbers are kept as patterns of 32 bits
-- (M68000 Family Programmer's Reference Manual, section 2.2).
use Rattle.std.specs.Prelude.{ℕ, ◌≡◌}
use Rattle.mix_bits.specs.Sizes.{sign_extended}
use Rattle.mix_bits.specs.declared.size.Size.TheVariants.{One, Two}
use Rattle.m68_isa.specs.declared.ea.Ea.{Ea}
use Rattle.m68_isa.specs.declared.ea.Ea.TheVariants.{Dn, An, Ind, Post, Pre, Disp, Indexed, AbsWord, AbsLong, PcDisp, PcIndexed, Imm}
use Rattle.m68_isa.specs.declared.instructions.Instr68.{Instr68}
use Rattle.m68_isa.specs.declared.instructions.Instr68.TheVariants.{Immediate, ImmediateToCcr, BitByRegister, BitByNumber, Movep, Move, Movea, Negx, Clr, Neg, Not, MoveFromSr, MoveToCcr, Nbcd, Swap, Pea, Ext, ExtByte, MovemToMemory, MovemFromMemory, MulLong, DivLong, Tst, Tas, Trap, Link, LinkLong, Unlk, Plain, Rtd, Trapv, Rtr, Jump, Chk, Lea, Quick, Scc, Dbcc, Bcc, BccLong, Moveq, Or, Div, Sbcd, Sub, Suba, Subx, Cmp, Cmpa, Eor, Cmpm, And, Mul, Abcd, Exg, Add, Adda, Addx, Shift, ShiftMemory}
use Rattle.m68_isa.specs.declared.instructions.Decoded68.{Decoded68}
use Rattle.m68_isa.specs.declared.instructions.Decoded68.TheVariants.{Op, LineA, LineF, Privileged, Illegal, Short}

-- a word with its sign repeated above it
abbrev pub IsWord : ℕ → Type 0
IsWord v = sign_extended v Two ≡ v

-- a byte with its sign repeated above it
abbrev pub IsByte : ℕ → Type 0
IsByte v = sign_extended v One ≡ v

abbrev pub IsExtendedEa : Ea → Type 0
IsExtendedEa (Disp n d) = IsWord d
IsExtendedEa (Indexed n i) = IsByte i.disp
IsExtendedEa (AbsWord a) = IsWord a
IsExtendedEa (PcDisp at d) = IsWord d
IsExtendedEa (PcIndexed at i) = IsByte i.disp
IsExtendedEa (Dn n) = Unit {0}
IsExtendedEa (An n) = Unit {0}
IsExtendedEa (Ind n) = Unit {0}
IsExtendedEa (Post n) = Unit {0}
IsExtendedEa (Pre n) = Unit {0}
IsExtendedEa (AbsLong a) = Unit {0}
IsExtendedEa (Imm v) = Unit {0}

-- each displacement of a byte or a word, short address and quick value of an instruction is sign extended
abbrev pub IsExtended : Instr68 → Type 0
IsExtended (Immediate op size value to) = IsExtendedEa to
IsExtended (BitByRegister op register to) = IsExtendedEa to
IsExtended (BitByNumber op bit to) = IsExtendedEa to
IsExtended (Movep size to_memory register base disp) = IsWord disp
IsExtended (Move size from to) = (IsExtendedEa from) × (IsExtendedEa to)
IsExtended (Movea size from to) = IsExtendedEa from
IsExtended (Negx size to) = IsExtendedEa to
IsExtended (Clr size to) = IsExtendedEa to
IsExtended (Neg size to) = IsExtendedEa to
IsExtended (Not size to) = IsExtendedEa to
IsExtended (MoveFromSr to) = IsExtendedEa to
IsExtended (MoveToCcr from) = IsExtendedEa from
IsExtended (Nbcd to) = IsExtendedEa to
IsExtended (Pea from) = IsExtendedEa from
IsExtended (MovemToMemory size mask to) = IsExtendedEa to
IsExtended (MovemFromMemory size mask from) = IsExtendedEa from
IsExtended (MulLong signed wide by high low) = IsExtendedEa by
IsExtended (DivLong signed wide by high low) = IsExtendedEa by
IsExtended (Tst size of) = IsExtendedEa of
IsExtended (Tas to) = IsExtendedEa to
IsExtended (Link register disp) = IsWord disp
IsExtended (Rtd disp) = IsWord disp
IsExtended (Jump op to) = IsExtendedEa to
IsExtended (Chk bound register) = IsExtendedEa bound
IsExtended (Lea from to) = IsExtendedEa from
IsExtended (Quick op size number to) = IsExtendedEa to
IsExtended (Scc condition to) = IsExtendedEa to
IsExtended (Dbcc condition register disp) = IsWord disp
IsExtended (Bcc condition disp) = IsWord disp
IsExtended (Moveq value to) = IsByte value
IsExtended (Or size to_memory register operand) = IsExtendedEa operand
IsExtended (Div signed by register) = IsExtendedEa by
IsExtended (Sub size to_memory register operand) = IsExtendedEa operand
IsExtended (Suba size from to) = IsExtendedEa from
IsExtended (Cmp size with register) = IsExtendedEa with
IsExtended (Cmpa size with register) = IsExtendedEa with
IsExtended (Eor size register to) = IsExtendedEa to
IsExtended (And size to_memory register operand) = IsExtendedEa operand
IsExtended (Mul signed by register) = IsExtendedEa by
IsExtended (Add size to_memory register operand) = IsExtendedEa operand
IsExtended (Adda size from to) = IsExtendedEa from
IsExtended (ShiftMemory op left to) = IsExtendedEa to
IsExtended (ImmediateToCcr op value) = Unit {0}
IsExtended (Swap register) = Unit {0}
IsExtended (Ext size register) = Unit {0}
IsExtended (ExtByte register) = Unit {0}
IsExtended (Trap number) = Unit {0}
IsExtended (LinkLong register disp) = Unit {0}
IsExtended (Unlk register) = Unit {0}
IsExtended (Plain op) = Unit {0}
IsExtended Trapv = Unit {0}
IsExtended Rtr = Unit {0}
IsExtended (BccLong condition disp) = Unit {0}
IsExtended (Sbcd memory from to) = Unit {0}
IsExtended (Subx size memory from to) = Unit {0}
IsExtended (Cmpm size from to) = Unit {0}
IsExtended (Abcd memory from to) = Unit {0}
IsExtended (Exg kind upper lower) = Unit {0}
IsExtended (Addx size memory from to) = Unit {0}
IsExtended (Shift op left size count register) = Unit {0}

abbrev pub IsExtendedDecoded : Decoded68 → Type 0
IsExtendedDecoded (Op i used) = IsExtended i
IsExtendedDecoded (LineA word) = Unit {0}
IsExtendedDecoded LineF = Unit {0}
IsExtendedDecoded Privileged = Unit {0}
IsExtendedDecoded Illegal = Unit {0}
IsExtendedDecoded Short = Unit {0}
