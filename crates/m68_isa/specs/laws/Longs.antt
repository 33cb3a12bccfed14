-- A register file and its longs give each other back (M68000 Family Programmer's Reference Manual, section 1.1).
use Rattle.std.specs.Prelude.{ℕ, ◌≡◌, ◌<◌, List, length, slice_index}
use Rattle.m68_isa.specs.declared.registers.Regs68.{Regs68}
use Rattle.m68_isa.specs.Longs.{longs_of, file_of}

pub record LongLaws : Type 0 where
  pub count : (file : Regs68) → length file.d ≡ 8 → length file.a ≡ 8 → length (longs_of file) ≡ 18
  -- the longs give the file back
  pub file : (file : Regs68) → length file.d ≡ 8 → length file.a ≡ 8 → file_of (longs_of file) ≡ file
  -- and the file the longs, where the last one holds five bits
  pub longs : (longs : List ℕ) → length longs ≡ 18 → slice_index longs 17 < 32 → longs_of (file_of longs) ≡ longs
