-- The fields of the type list, and how many references a fork may have.
use Rattle.std.specs.Prelude.{ℕ, zero, suc, ◌+◌, ◌*◌, nat_lt, if◌then◌else◌, List, Result, Ok, ℤ, ◌%◌, Bool, ◌==◌, slice_index}
use Rattle.rsrc_fork.specs.declared.error.RsrcError.{RsrcError}
use Rattle.rsrc_fork.specs.declared.header.Areas.{Areas}
use Rattle.rsrc_fork.specs.Header.{areas_of, list_of}
use Rattle.mix_bits.specs.Results.{◌>>=◌}
use Rattle.rsrc_fork.specs.declared.references.TypeEntry.{TypeEntry}
use Rattle.byteorder.specs.Endian.{twos_complement}
use Rattle.mix_bits.specs.Fields.{word_at, long_at}

-- the id in a reference, a signed word
abbrev pub id_at : List ℕ → ℕ → ℤ
id_at bytes place = twos_complement 2 (word_at bytes place)

abbrev pub is_compressed : List ℕ → ℕ → Bool
is_compressed bytes place = slice_index bytes (place + 4) % 2 == 1

-- the type's entry at a place, with its first reference's place in the file
abbrev pub entry_at : List ℕ → ℕ → ℕ → TypeEntry
entry_at bytes list place =
    record {
      kind = long_at bytes place;
      count = word_at bytes (place + 4) + 1;
      first = list + word_at bytes (place + 6);
    }

abbrev pub type_count : List ℕ → ℕ → ℕ
type_count bytes list = (word_at bytes list + 1) % 65536

-- how many references a fork may have: as many as fill the largest file, with 12 bytes for each
abbrev pub reference_limit : ℕ
reference_limit = 1398101

-- how many references a type has, as its entry says; an entry that leaves the map says nothing
abbrev pub count_in : List ℕ → Areas → ℕ → ℕ → ℕ
count_in bytes areas list k =
    let place = list + 2 + 8 * k in
    let entry = entry_at bytes list place in
    if nat_lt areas.map_end (place + 8) then 0 else entry.count

-- how many the first types have together
abbrev pub count_below : List ℕ → Areas → ℕ → ℕ → ℕ
count_below bytes areas list zero = 0
count_below bytes areas list (suc k) = count_below bytes areas list k + count_in bytes areas list k

-- how many references a fork has, as its type list says; types may share them
abbrev pub reference_count : List ℕ → Result ℕ RsrcError
reference_count bytes =
    areas_of bytes >>= λ areas. list_of bytes areas >>= λ list. Ok (count_below bytes areas list (type_count bytes list))
