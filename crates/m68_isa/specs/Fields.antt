-- The ranges of an instruction's fields
-- (M68000 Family Programmer's Reference Manual, sections 2.2 and 4).
use Rattle.std.specs.Prelude.{ℕ, ◌≡◌, ◌<◌, ◌≤◌, ◌^◌, ◌≢◌, ◌⊎◌}
use Rattle.mix_bits.specs.Sizes.{modulus}
use Rattle.mix_bits.specs.declared.size.Size.TheVariants.{Zero}
use Rattle.m68_isa.specs.declared.ea.Ea.{Ea}
use Rattle.m68_isa.specs.declared.ea.Ea.TheVariants.{Dn, An, Ind, Post, Pre, Disp, Indexed, AbsWord, AbsLong, PcDisp, PcIndexed, Imm}
use Rattle.m68_isa.specs.declared.instructions.ShiftCount.{ShiftCount}
use Rattle.m68_isa.specs.declared.instructions.ShiftCount.TheVariants.{Number, Register}
use Rattle.m68_isa.specs.declared.instructions.Instr68.{Instr68}
use Rattle.m68_isa.specs.declared.instructions.Instr68.TheVariants.{Immediate, ImmediateToCcr, BitByRegister, BitByNumber, Movep, Move, Movea, Negx, Clr, Neg, Not, MoveFromSr, MoveToCcr, Nbcd, Swap, Pea, Ext, ExtByte, MovemToMemory, MovemFromMemory, MulLong, DivLong, Tst, Tas, Trap, Link, LinkLong, Unlk, Plain, Rtd, Trapv, Rtr, Jump, Chk, Lea, Quick, Scc, Dbcc, Bcc, BccLong, Moveq, Or, Div, Sbcd, Sub, Suba, Subx, Cmp, Cmpa, Eor, Cmpm, And, Mul, Abcd, Exg, Add, Adda, Addx, Shift, ShiftMemory}
use Rattle.m68_isa.specs.declared.instructions.Decoded68.{Decoded68}
use Rattle.m68_isa.specs.declared.instructions.Decoded68.TheVariants.{Op, LineA, LineF, Privileged, Illegal, Short}

-- a scale is one of the four
abbrev pub IsScale : ℕ → Type 0
IsScale scale = (scale ≡ 1) ⊎ (scale ≡ 2) ⊎ (scale ≡ 4) ⊎ (scale ≡ 8)

-- each register of an operand is one of the eight, and so is the index, whose scale is one of the four
abbrev pub HasRegisters : Ea → Type 0
HasRegisters (Dn n) = n < 8
HasRegisters (An n) = n < 8
HasRegisters (Ind n) = n < 8
HasRegisters (Post n) = n < 8
HasRegisters (Pre n) = n < 8
HasRegisters (Disp n d) = n < 8
HasRegisters (Indexed n i) = (n < 8) × (i.reg < 8) × (IsScale i.scale)
HasRegisters (AbsWord a) = Unit {0}
HasRegisters (AbsLong a) = Unit {0}
HasRegisters (PcDisp at d) = Unit {0}
HasRegisters (PcIndexed at i) = (i.reg < 8) × (IsScale i.scale)
HasRegisters (Imm v) = Unit {0}

-- a number from 1 to 8 or a register
abbrev pub HasCount : ShiftCount → Type 0
HasCount (Number n) = (0 < n) × (n < 9)
HasCount (Register n) = n < 8

-- each register of an instruction is one of the eight, each size is that of a value, and
-- numbers, values, masks and conditions are in their ranges
abbrev pub HasFields : Instr68 → Type 0
HasFields (Immediate op size value to) = (size ≢ Zero) × (value < modulus size) × (HasRegisters to)
HasFields (ImmediateToCcr op value) = value < 256
HasFields (BitByRegister op register to) = (register < 8) × (HasRegisters to)
HasFields (BitByNumber op bit to) = (bit < 256) × (HasRegisters to)
HasFields (Movep size to_memory register base disp) = (size ≢ Zero) × (register < 8) × (base < 8)
HasFields (Move size from to) = (size ≢ Zero) × (HasRegisters from) × (HasRegisters to)
HasFields (Movea size from to) = (size ≢ Zero) × (HasRegisters from) × (to < 8)
HasFields (Negx size to) = (size ≢ Zero) × (HasRegisters to)
HasFields (Clr size to) = (size ≢ Zero) × (HasRegisters to)
HasFields (Neg size to) = (size ≢ Zero) × (HasRegisters to)
HasFields (Not size to) = (size ≢ Zero) × (HasRegisters to)
HasFields (MoveFromSr to) = HasRegisters to
HasFields (MoveToCcr from) = HasRegisters from
HasFields (Nbcd to) = HasRegisters to
HasFields (Swap register) = register < 8
HasFields (Pea from) = HasRegisters from
HasFields (Ext size register) = (size ≢ Zero) × (register < 8)
HasFields (ExtByte register) = register < 8
HasFields (MovemToMemory size mask to) = (size ≢ Zero) × (mask < 2 ^ 16) × (HasRegisters to)
HasFields (MovemFromMemory size mask from) = (size ≢ Zero) × (mask < 2 ^ 16) × (HasRegisters from)
HasFields (MulLong signed wide by high low) = (HasRegisters by) × (high < 8) × (low < 8)
HasFields (DivLong signed wide by high low) = (HasRegisters by) × (high < 8) × (low < 8)
HasFields (Tst size of) = (size ≢ Zero) × (HasRegisters of)
HasFields (Tas to) = HasRegisters to
HasFields (Trap number) = number < 16
HasFields (Link register disp) = register < 8
HasFields (LinkLong register disp) = register < 8
HasFields (Unlk register) = register < 8
HasFields (Plain op) = Unit {0}
HasFields (Rtd disp) = Unit {0}
HasFields Trapv = Unit {0}
HasFields Rtr = Unit {0}
HasFields (Jump op to) = HasRegisters to
HasFields (Chk bound register) = (HasRegisters bound) × (register < 8)
HasFields (Lea from to) = (HasRegisters from) × (to < 8)
HasFields (Quick op size number to) = (size ≢ Zero) × (0 < number) × (number < 9) × (HasRegisters to)
HasFields (Scc condition to) = (condition < 16) × (HasRegisters to)
HasFields (Dbcc condition register disp) = (condition < 16) × (register < 8)
HasFields (Bcc condition disp) = condition < 16
HasFields (BccLong condition disp) = condition < 16
HasFields (Moveq value to) = to < 8
HasFields (Or size to_memory register operand) = (size ≢ Zero) × (register < 8) × (HasRegisters operand)
HasFields (Div signed by register) = (HasRegisters by) × (register < 8)
HasFields (Sbcd memory from to) = (from < 8) × (to < 8)
HasFields (Sub size to_memory register operand) = (size ≢ Zero) × (register < 8) × (HasRegisters operand)
HasFields (Suba size from to) = (size ≢ Zero) × (HasRegisters from) × (to < 8)
HasFields (Subx size memory from to) = (size ≢ Zero) × (from < 8) × (to < 8)
HasFields (Cmp size with register) = (size ≢ Zero) × (HasRegisters with) × (register < 8)
HasFields (Cmpa size with register) = (size ≢ Zero) × (HasRegisters with) × (register < 8)
HasFields (Eor size register to) = (size ≢ Zero) × (register < 8) × (HasRegisters to)
HasFields (Cmpm size from to) = (size ≢ Zero) × (from < 8) × (to < 8)
HasFields (And size to_memory register operand) = (size ≢ Zero) × (register < 8) × (HasRegisters operand)
HasFields (Mul signed by register) = (HasRegisters by) × (register < 8)
HasFields (Abcd memory from to) = (from < 8) × (to < 8)
HasFields (Exg kind upper lower) = (upper < 8) × (lower < 8)
HasFields (Add size to_memory register operand) = (size ≢ Zero) × (register < 8) × (HasRegisters operand)
HasFields (Adda size from to) = (size ≢ Zero) × (HasRegisters from) × (to < 8)
HasFields (Addx size memory from to) = (size ≢ Zero) × (from < 8) × (to < 8)
HasFields (Shift op left size count register) = (size ≢ Zero) × (HasCount count) × (register < 8)
HasFields (ShiftMemory op left to) = HasRegisters to

abbrev pub HasDecoded : Decoded68 → Type 0
HasDecoded (Op i used) = HasFields i
HasDecoded (LineA word) = Unit {0}
HasDecoded LineF = Unit {0}
HasDecoded Privileged = Unit {0}
HasDecoded Illegal = Unit {0}
HasDecoded Short = Unit {0}

-- an instruction has one to five words, and no more than are given; five are never too few
abbrev pub HasWords : Decoded68 → ℕ → Type 0
HasWords (Op i used) count = (0 < used) × (used ≤ 5) × (used ≤ count)
HasWords (LineA word) count = Unit {0}
HasWords LineF count = Unit {0}
HasWords Privileged count = Unit {0}
HasWords Illegal count = Unit {0}
HasWords Short count = count < 5
