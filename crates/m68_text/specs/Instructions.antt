-- The name and the operands of each instruction, the source first
-- (M68000 Family Programmer's Reference Manual, section 4).
use Rattle.std.specs.Prelude.{ℕ, List, [], ◌∷◌, ◌++◌, codes, if◌then◌else◌}
use Rattle.mix_bits.specs.declared.size.Size.TheVariants.{One, Two, Four}
use Rattle.m68_isa.specs.declared.instructions.Instr68.{Instr68}
use Rattle.m68_isa.specs.declared.instructions.Instr68.TheVariants.{Immediate, ImmediateToCcr, BitByRegister, BitByNumber, Movep, Move, Movea, Negx, Clr, Neg, Not, MoveFromSr, MoveToCcr, Nbcd, Swap, Pea, Ext, ExtByte, MovemToMemory, MovemFromMemory, MulLong, DivLong, Tst, Tas, Trap, Link, LinkLong, Unlk, Plain, Rtd, Trapv, Rtr, Jump, Chk, Lea, Quick, Scc, Dbcc, Bcc, BccLong, Moveq, Or, Div, Sbcd, Sub, Suba, Subx, Cmp, Cmpa, Eor, Cmpm, And, Mul, Abcd, Exg, Add, Adda, Addx, Shift, ShiftMemory}
use Rattle.m68_isa.specs.Targets.{branch_target}
use Rattle.m68_text.specs.declared.operand.Operand.{Operand}
use Rattle.m68_text.specs.declared.operand.Operand.TheVariants.{Data, Address, PostIncrement, Displaced, Byte, Word, Long, Number, ConditionCodes, StatusRegister, Target}
use Rattle.m68_text.specs.Names.{bit_name, branch_name, branch_suffix, condition_name, immediate_name, jump_name, logic_name, plain_name, quick_name, shift_name, suffix}
use Rattle.m68_text.specs.Operands.{counted, directed, exchanged, immediate, paired, place, with_registers}

-- the name and the operands of an instruction of so many words, which are these, at an address; an immediate begins
-- with word 1, unless that is the word of the registers
abbrev pub parts : Instr68 → ℕ → List ℕ → ℕ → List ℕ × List Operand
parts (Immediate op size value to) used ws at = (immediate_name op ++ suffix size, immediate size ws 1 ∷ place size ws 1 to ∷ [])
parts (ImmediateToCcr op value) used ws at = (logic_name op, immediate One ws 1 ∷ ConditionCodes ∷ [])
parts (BitByRegister op register to) used ws at = (bit_name op, Data register ∷ place One ws 1 to ∷ [])
parts (BitByNumber op bit to) used ws at = (bit_name op, immediate One ws 1 ∷ place One ws 1 to ∷ [])
parts (Movep size to_memory register base disp) used ws at = (codes "movep" ++ suffix size, directed to_memory register (Displaced base disp))
parts (Move size from to) used ws at = (codes "move" ++ suffix size, place size ws 1 from ∷ place size ws 1 to ∷ [])
parts (Movea size from to) used ws at = (codes "movea" ++ suffix size, place size ws 1 from ∷ Address to ∷ [])
parts (Negx size to) used ws at = (codes "negx" ++ suffix size, place size ws 1 to ∷ [])
parts (Clr size to) used ws at = (codes "clr" ++ suffix size, place size ws 1 to ∷ [])
parts (Neg size to) used ws at = (codes "neg" ++ suffix size, place size ws 1 to ∷ [])
parts (Not size to) used ws at = (codes "not" ++ suffix size, place size ws 1 to ∷ [])
parts (MoveFromSr to) used ws at = (codes "move", StatusRegister ∷ place Two ws 1 to ∷ [])
parts (MoveToCcr from) used ws at = (codes "move", place Two ws 1 from ∷ ConditionCodes ∷ [])
parts (Nbcd to) used ws at = (codes "nbcd", place One ws 1 to ∷ [])
parts (Swap register) used ws at = (codes "swap", Data register ∷ [])
parts (Pea from) used ws at = (codes "pea", place Four ws 1 from ∷ [])
parts (Ext size register) used ws at = (codes "ext" ++ suffix size, Data register ∷ [])
parts (ExtByte register) used ws at = (codes "extb.l", Data register ∷ [])
parts (MovemToMemory size mask to) used ws at = (codes "movem" ++ suffix size, Word mask ∷ place size ws 1 to ∷ [])
parts (MovemFromMemory size mask from) used ws at = (codes "movem" ++ suffix size, place size ws 1 from ∷ Word mask ∷ [])
parts (MulLong signed wide by high low) used ws at = (if signed then codes "muls.l" else codes "mulu.l", with_registers wide high low ws by)
parts (DivLong signed wide by high low) used ws at = (if signed then codes "divs.l" else codes "divu.l", with_registers wide high low ws by)
parts (Tst size of) used ws at = (codes "tst" ++ suffix size, place size ws 1 of ∷ [])
parts (Tas to) used ws at = (codes "tas", place One ws 1 to ∷ [])
parts (Trap number) used ws at = (codes "trap", Number number ∷ [])
parts (Link register disp) used ws at = (codes "link", Address register ∷ Word disp ∷ [])
parts (LinkLong register disp) used ws at = (codes "link.l", Address register ∷ Long disp ∷ [])
parts (Unlk register) used ws at = (codes "unlk", Address register ∷ [])
parts (Plain op) used ws at = (plain_name op, [])
parts (Rtd disp) used ws at = (codes "rtd", Word disp ∷ [])
parts Trapv used ws at = (codes "trapv", [])
parts Rtr used ws at = (codes "rtr", [])
parts (Jump op to) used ws at = (jump_name op, place Four ws 1 to ∷ [])
parts (Chk bound register) used ws at = (codes "chk", place Two ws 1 bound ∷ Data register ∷ [])
parts (Lea from to) used ws at = (codes "lea", place Four ws 1 from ∷ Address to ∷ [])
parts (Quick op size number to) used ws at = (quick_name op ++ suffix size, Number number ∷ place size ws 1 to ∷ [])
parts (Scc condition to) used ws at = (codes "s" ++ condition_name condition, place One ws 1 to ∷ [])
parts (Dbcc condition register disp) used ws at = (codes "db" ++ condition_name condition, Data register ∷ Target (branch_target at disp) ∷ [])
parts (Bcc condition disp) used ws at = (branch_name condition ++ branch_suffix used, Target (branch_target at disp) ∷ [])
parts (BccLong condition disp) used ws at = (branch_name condition ++ codes ".l", Target (branch_target at disp) ∷ [])
parts (Moveq value to) used ws at = (codes "moveq", Byte value ∷ Data to ∷ [])
parts (Or size to_memory register operand) used ws at = (codes "or" ++ suffix size, directed to_memory register (place size ws 1 operand))
parts (Div signed by register) used ws at = (if signed then codes "divs" else codes "divu", place Two ws 1 by ∷ Data register ∷ [])
parts (Sbcd memory from to) used ws at = (codes "sbcd", paired memory from to)
parts (Sub size to_memory register operand) used ws at = (codes "sub" ++ suffix size, directed to_memory register (place size ws 1 operand))
parts (Suba size from to) used ws at = (codes "suba" ++ suffix size, place size ws 1 from ∷ Address to ∷ [])
parts (Subx size memory from to) used ws at = (codes "subx" ++ suffix size, paired memory from to)
parts (Cmp size with register) used ws at = (codes "cmp" ++ suffix size, place size ws 1 with ∷ Data register ∷ [])
parts (Cmpa size with register) used ws at = (codes "cmpa" ++ suffix size, place size ws 1 with ∷ Address register ∷ [])
parts (Eor size register to) used ws at = (codes "eor" ++ suffix size, Data register ∷ place size ws 1 to ∷ [])
parts (Cmpm size from to) used ws at = (codes "cmpm" ++ suffix size, PostIncrement from ∷ PostIncrement to ∷ [])
parts (And size to_memory register operand) used ws at = (codes "and" ++ suffix size, directed to_memory register (place size ws 1 operand))
parts (Mul signed by register) used ws at = (if signed then codes "muls" else codes "mulu", place Two ws 1 by ∷ Data register ∷ [])
parts (Abcd memory from to) used ws at = (codes "abcd", paired memory from to)
parts (Exg kind upper lower) used ws at = (codes "exg", exchanged kind upper lower)
parts (Add size to_memory register operand) used ws at = (codes "add" ++ suffix size, directed to_memory register (place size ws 1 operand))
parts (Adda size from to) used ws at = (codes "adda" ++ suffix size, place size ws 1 from ∷ Address to ∷ [])
parts (Addx size memory from to) used ws at = (codes "addx" ++ suffix size, paired memory from to)
parts (Shift op left size count register) used ws at = (shift_name op left ++ suffix size, counted count ∷ Data register ∷ [])
parts (ShiftMemory op left to) used ws at = (shift_name op left, place Two ws 1 to ∷ [])

-- a name says nothing of the words but how many they are, and nothing of the address
abbrev pub name : Instr68 → ℕ → List ℕ
name i used = (parts i used [] 0).0

-- and the operands nothing of how many the words are
abbrev pub operands : Instr68 → List ℕ → ℕ → List Operand
operands i ws at = (parts i 0 ws at).1
