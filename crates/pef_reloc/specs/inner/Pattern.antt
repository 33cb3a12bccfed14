-- What is read and written of pattern data, in small parts.
use Rattle.std.specs.Prelude.{ℕ, ◌==◌, if◌then◌else◌, List, [], ◌++◌, Option, None}
use Rattle.pef_reloc.specs.Reads.{Read}
use Rattle.pef_reloc.specs.Pattern.{number_after, Unpacked, refused}

abbrev pub number_in : List ℕ → Option (Read ℕ)
number_in bytes = number_after 0 bytes

abbrev pub with_piece : List ℕ → Unpacked → Unpacked
with_piece piece later = record later { written = piece ++ later.written }

abbrev pub ended : ℕ → ℕ → Unpacked
ended len room = if room == 0 then record { written = []; refusal = None } else refused len
