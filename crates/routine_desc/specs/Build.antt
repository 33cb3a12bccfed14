-- The bytes of a descriptor that the host makes: flags 0, and 0 in each field that is not read.
use Rattle.std.specs.Prelude.{ℕ, ◌+◌, List, [], ◌∷◌, ◌++◌, Option, Some, None}
use Rattle.byteorder.specs.Endian.{big_bytes}
use Rattle.routine_desc.specs.Layout.{mixed_mode_magic}

-- the header, with the index of the last record
abbrev pub header_bytes : ℕ → List ℕ
header_bytes last = big_bytes 2 mixed_mode_magic ++ (7 ∷ 0 ∷ 0 ∷ 0 ∷ 0 ∷ 0 ∷ 0 ∷ 0 ∷ 0 ∷ last ∷ [])

abbrev pub record_bytes : ℕ → ℕ → ℕ → List ℕ
record_bytes info isa proc = big_bytes 4 info ++ (0 ∷ isa ∷ 0 ∷ 0 ∷ [] ++ (big_bytes 4 proc ++ (0 ∷ 0 ∷ 0 ∷ 0 ∷ 0 ∷ 0 ∷ 0 ∷ 0 ∷ [])))

-- one record, or a 68K record before it
abbrev pub image : ℕ → Option ℕ → ℕ → ℕ → List ℕ
image info None isa proc = header_bytes 0 ++ record_bytes info isa proc
image info (Some m68k) isa proc = header_bytes 1 ++ (record_bytes info 0 m68k ++ record_bytes info isa proc)
