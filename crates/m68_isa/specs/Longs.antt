-- A register file as its eighteen longs: D0 to D7, A0 to A7, the pc, and the bits of the condition codes
-- (M68000 Family Programmer's Reference Manual, section 1.1).
use Rattle.std.specs.Prelude.{ℕ, List, [], ◌∷◌, ◌++◌, take, drop, slice_index}
use Rattle.m68_isa.specs.declared.registers.Regs68.{Regs68}
use Rattle.m68_isa.specs.Registers.{ccr_bits, ccr_of}

abbrev pub longs_of : Regs68 → List ℕ
longs_of file = file.d ++ (file.a ++ (file.pc ∷ ccr_bits file.ccr ∷ []))

-- the register file of a list of longs
abbrev pub file_of : List ℕ → Regs68
file_of longs = record { d = take 8 longs; a = take 8 (drop 8 longs); pc = slice_index longs 16; ccr = ccr_of (slice_index longs 17) }
