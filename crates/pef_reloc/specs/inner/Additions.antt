-- How much work is left.
use Rattle.std.specs.Prelude.{if◌then◌else◌, Option, Some, None, ℕ, ◌+◌, ◌-◌, ◌==◌, nat_lt, length, slice_index, Result, Ok, Err}
use Rattle.pef_reloc.specs.declared.error.RelocError.{RelocError}
use Rattle.pef_reloc.specs.declared.error.RelocError.TheVariants.{Work, ImportIndex, SectionIndex}
use Rattle.pef_reloc.specs.declared.cursor.Cursor.{Cursor}
use Rattle.pef_reloc.specs.Additions.{Sources}

abbrev pub work_left : Cursor → Option RelocError
work_left cursor = if cursor.over then Some Work else None

abbrev pub base_of : Sources → ℕ → Result ℕ RelocError
base_of sources n = if nat_lt n (length sources.bases) then Ok (slice_index sources.bases n) else Err (SectionIndex n)

abbrev pub import_at : Sources → ℕ → Result ℕ RelocError
import_at sources n = if nat_lt n (length sources.imports) then Ok (slice_index sources.imports n) else Err (ImportIndex n)

abbrev pub moved : ℕ → Cursor → Cursor
moved n cursor = record cursor { position = cursor.position + n }

-- an instruction is counted: one too many, where none is left
abbrev pub begun : Cursor → Cursor
begun cursor = record cursor { left = cursor.left - 1; over = cursor.left == 0 }
