-- The modes of an instruction's operands: each is in the class of its row
-- (M68000 Family Programmer's Reference Manual, sections 2.3 and 4).
use Rattle.std.specs.Prelude.{ℕ, ◌&&◌, ◌||◌, ◌==◌, not, Bool, true, false}
use Rattle.mix_bits.specs.declared.size.Size.{Size}
use Rattle.m68_isa.specs.declared.ea.Ea.{Ea}
use Rattle.m68_isa.specs.declared.ea.Ea.TheVariants.{Dn, An, Ind, Post, Pre, Disp, Indexed, AbsWord, AbsLong, PcDisp, PcIndexed, Imm}
use Rattle.m68_isa.specs.Classes.Class.{Any, Data, Alterable, DataAlterable, MemoryAlterable, Control, ControlAlterable}
use Rattle.m68_isa.specs.declared.instructions.BitOp.{BitOp}
use Rattle.m68_isa.specs.declared.instructions.BitOp.TheVariants.{Btst, Bchg, Bclr, Bset}
use Rattle.m68_isa.specs.declared.instructions.Instr68.{Instr68}
use Rattle.m68_isa.specs.declared.instructions.Instr68.TheVariants.{Immediate, ImmediateToCcr, BitByRegister, BitByNumber, Movep, Move, Movea, Negx, Clr, Neg, Not, MoveFromSr, MoveToCcr, Nbcd, Swap, Pea, Ext, ExtByte, MovemToMemory, MovemFromMemory, MulLong, DivLong, Tst, Tas, Trap, Link, LinkLong, Unlk, Plain, Rtd, Trapv, Rtr, Jump, Chk, Lea, Quick, Scc, Dbcc, Bcc, BccLong, Moveq, Or, Div, Sbcd, Sub, Suba, Subx, Cmp, Cmpa, Eor, Cmpm, And, Mul, Abcd, Exg, Add, Adda, Addx, Shift, ShiftMemory}
use Rattle.m68_isa.specs.Classes.{Class, in_class, is_source}

-- the mode's three bits and the register's, of which mode 7 makes modes of its own
abbrev pub mode_of : Ea → ℕ
mode_of (Dn n) = 0
mode_of (An n) = 1
mode_of (Ind n) = 2
mode_of (Post n) = 3
mode_of (Pre n) = 4
mode_of (Disp n d) = 5
mode_of (Indexed n i) = 6
mode_of (AbsWord a) = 7
mode_of (AbsLong a) = 7
mode_of (PcDisp at d) = 7
mode_of (PcIndexed at i) = 7
mode_of (Imm v) = 7

abbrev pub register_of : Ea → ℕ
register_of (Dn n) = n
register_of (An n) = n
register_of (Ind n) = n
register_of (Post n) = n
register_of (Pre n) = n
register_of (Disp n d) = n
register_of (Indexed n i) = n
register_of (AbsWord a) = 0
register_of (AbsLong a) = 1
register_of (PcDisp at d) = 2
register_of (PcIndexed at i) = 3
register_of (Imm v) = 4

-- an operand of a class
abbrev pub is_in : Class → Ea → Bool
is_in class e = in_class class (mode_of e) (register_of e)

-- and no address register at byte size
abbrev pub is_sized : Class → Size → Ea → Bool
is_sized class s e = is_source class s (mode_of e) (register_of e)

abbrev pub is_immediate : Ea → Bool
is_immediate e = (mode_of e == 7) && (register_of e == 4)

-- btst changes nothing
abbrev pub class_of : BitOp → Class
class_of Btst = Data
class_of Bchg = DataAlterable
class_of Bclr = DataAlterable
class_of Bset = DataAlterable

-- the destination for a data register is in memory, its source as the instruction says
abbrev pub is_either : Bool → Bool → Ea → Bool
is_either true source e = is_in MemoryAlterable e
is_either false source e = source

-- each operand is in the class of its row; those of SUBA, CMPA and ADDA are of all modes
abbrev pub has_modes : Instr68 → Bool
has_modes (Immediate op size value to) = is_in DataAlterable to
has_modes (BitByRegister op register to) = is_in (class_of op) to
has_modes (BitByNumber op bit to) = is_in (class_of op) to && not (is_immediate to)
has_modes (Move size from to) = is_sized Any size from && is_in DataAlterable to
has_modes (Movea size from to) = is_sized Any size from
has_modes (Negx size to) = is_in DataAlterable to
has_modes (Clr size to) = is_in DataAlterable to
has_modes (Neg size to) = is_in DataAlterable to
has_modes (Not size to) = is_in DataAlterable to
has_modes (MoveFromSr to) = is_in DataAlterable to
has_modes (MoveToCcr from) = is_in Data from
has_modes (Nbcd to) = is_in DataAlterable to
has_modes (Pea from) = is_in Control from
has_modes (MovemToMemory size mask to) = is_in ControlAlterable to || (mode_of to == 4)
has_modes (MovemFromMemory size mask from) = is_in Control from || (mode_of from == 3)
has_modes (MulLong signed wide by high low) = is_in Data by
has_modes (DivLong signed wide by high low) = is_in Data by
has_modes (Tst size of) = is_in DataAlterable of
has_modes (Tas to) = is_in DataAlterable to
has_modes (Jump op to) = is_in Control to
has_modes (Chk bound register) = is_in Data bound
has_modes (Lea from to) = is_in Control from
has_modes (Quick op size number to) = is_sized Alterable size to
has_modes (Scc condition to) = is_in DataAlterable to
has_modes (Or size to_memory register operand) = is_either to_memory (is_in Data operand) operand
has_modes (Div signed by register) = is_in Data by
has_modes (Sub size to_memory register operand) = is_either to_memory (is_sized Any size operand) operand
has_modes (Cmp size with register) = is_sized Any size with
has_modes (Eor size register to) = is_in DataAlterable to
has_modes (And size to_memory register operand) = is_either to_memory (is_in Data operand) operand
has_modes (Mul signed by register) = is_in Data by
has_modes (Add size to_memory register operand) = is_either to_memory (is_sized Any size operand) operand
has_modes (ShiftMemory op left to) = is_in MemoryAlterable to
has_modes (Suba size from to) = true
has_modes (Cmpa size with register) = true
has_modes (Adda size from to) = true
has_modes (ImmediateToCcr op value) = true
has_modes (Movep size to_memory register base disp) = true
has_modes (Swap register) = true
has_modes (Ext size register) = true
has_modes (ExtByte register) = true
has_modes (Trap number) = true
has_modes (Link register disp) = true
has_modes (LinkLong register disp) = true
has_modes (Unlk register) = true
has_modes (Plain op) = true
has_modes (Rtd disp) = true
has_modes Trapv = true
has_modes Rtr = true
has_modes (Dbcc condition register disp) = true
has_modes (Bcc condition disp) = true
has_modes (BccLong condition disp) = true
has_modes (Moveq value to) = true
has_modes (Sbcd memory from to) = true
has_modes (Subx size memory from to) = true
has_modes (Cmpm size from to) = true
has_modes (Abcd memory from to) = true
has_modes (Exg kind upper lower) = true
has_modes (Addx size memory from to) = true
has_modes (Shift op left size count register) = true
