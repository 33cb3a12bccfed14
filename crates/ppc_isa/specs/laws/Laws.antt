-- Laws of words and their instructions, and of a register file and its longs.
use Rattle.std.specs.Prelude.{ℕ, ◌≡◌, ◌^◌, ◌<◌, ◌≤◌, ◌↔◌, List, length, Some}
use Rattle.std.specs.List.{count_by}
use Rattle.ppc_isa.specs.declared.instruction.InstrPpc.{InstrPpc}
use Rattle.ppc_isa.specs.declared.registers.RegsPpc.{RegsPpc}
use Rattle.ppc_isa.specs.Fields.{fields_of}
use Rattle.ppc_isa.specs.Longs.{file_of, longs_of}
use Rattle.ppc_isa.specs.Valid.{Stands}
use Rattle.ppc_isa.specs.Rows.{decoded, is_in, table}

-- a word is decoded to the instruction that it stands for, and to no other
abbrev pub DecodedStands : Type 0
DecodedStands = (w : ℕ) → w < 2 ^ 32 → (i : InstrPpc) → (decoded w ≡ Some i) ↔ Stands i w

-- no word is in two rows
abbrev pub RowsAreApart : Type 0
RowsAreApart = (w : ℕ) → count_by (λ r. is_in r (fields_of w)) table ≤ 1

pub record LongLaws : Type 0 where
  pub count : (file : RegsPpc) → length file.gpr ≡ 32 → length (longs_of file) ≡ 37
  -- the longs give the file back, and the file the longs
  pub file : (file : RegsPpc) → length file.gpr ≡ 32 → file_of (longs_of file) ≡ file
  pub longs : (longs : List ℕ) → length longs ≡ 37 → longs_of (file_of longs) ≡ longs
