-- The sizes of an instruction: each is one that its row has
-- (M68000 Family Programmer's Reference Manual, section 4).
use Rattle.std.specs.Prelude.{Bool, true, false}
use Rattle.mix_bits.specs.declared.size.Size.{Size}
use Rattle.mix_bits.specs.declared.size.Size.TheVariants.{Zero, One, Two, Four}
use Rattle.m68_isa.specs.declared.instructions.Instr68.{Instr68}
use Rattle.m68_isa.specs.declared.instructions.Instr68.TheVariants.{Immediate, ImmediateToCcr, BitByRegister, BitByNumber, Movep, Move, Movea, Negx, Clr, Neg, Not, MoveFromSr, MoveToCcr, Nbcd, Swap, Pea, Ext, ExtByte, MovemToMemory, MovemFromMemory, MulLong, DivLong, Tst, Tas, Trap, Link, LinkLong, Unlk, Plain, Rtd, Trapv, Rtr, Jump, Chk, Lea, Quick, Scc, Dbcc, Bcc, BccLong, Moveq, Or, Div, Sbcd, Sub, Suba, Subx, Cmp, Cmpa, Eor, Cmpm, And, Mul, Abcd, Exg, Add, Adda, Addx, Shift, ShiftMemory}

-- a byte, a word or a long
abbrev pub is_any : Size → Bool
is_any Zero = false
is_any One = true
is_any Two = true
is_any Four = true

-- a word or a long
abbrev pub is_wide : Size → Bool
is_wide Zero = false
is_wide One = false
is_wide Two = true
is_wide Four = true

-- an instruction without a size has none to choose
abbrev pub has_size : Instr68 → Bool
has_size (Immediate op size value to) = is_any size
has_size (Movep size to_memory register base disp) = is_wide size
has_size (Move size from to) = is_any size
has_size (Movea size from to) = is_wide size
has_size (Negx size to) = is_any size
has_size (Clr size to) = is_any size
has_size (Neg size to) = is_any size
has_size (Not size to) = is_any size
has_size (Ext size register) = is_wide size
has_size (MovemToMemory size mask to) = is_wide size
has_size (MovemFromMemory size mask from) = is_wide size
has_size (MulLong signed wide by high low) = true
has_size (DivLong signed wide by high low) = true
has_size (Tst size of) = is_any size
has_size (Quick op size number to) = is_any size
has_size (Or size to_memory register operand) = is_any size
has_size (Sub size to_memory register operand) = is_any size
has_size (Suba size from to) = is_wide size
has_size (Subx size memory from to) = is_any size
has_size (Cmp size with register) = is_any size
has_size (Cmpa size with register) = is_wide size
has_size (Eor size register to) = is_any size
has_size (Cmpm size from to) = is_any size
has_size (And size to_memory register operand) = is_any size
has_size (Add size to_memory register operand) = is_any size
has_size (Adda size from to) = is_wide size
has_size (Addx size memory from to) = is_any size
has_size (Shift op left size count register) = is_any size
has_size (ImmediateToCcr op value) = true
has_size (BitByRegister op register to) = true
has_size (BitByNumber op bit to) = true
has_size (MoveFromSr to) = true
has_size (MoveToCcr from) = true
has_size (Nbcd to) = true
has_size (Swap register) = true
has_size (ExtByte register) = true
has_size (Pea from) = true
has_size (Tas to) = true
has_size (Trap number) = true
has_size (Link register disp) = true
has_size (LinkLong register disp) = true
has_size (Unlk register) = true
has_size (Plain op) = true
has_size (Rtd disp) = true
has_size Trapv = true
has_size Rtr = true
has_size (Jump op to) = true
has_size (Chk bound register) = true
has_size (Lea from to) = true
has_size (Scc condition to) = true
has_size (Dbcc condition register disp) = true
has_size (Bcc condition disp) = true
has_size (BccLong condition disp) = true
has_size (Moveq value to) = true
has_size (Div signed by register) = true
has_size (Sbcd memory from to) = true
has_size (Mul signed by register) = true
has_size (Abcd memory from to) = true
has_size (Exg kind upper lower) = true
has_size (ShiftMemory op left to) = true
