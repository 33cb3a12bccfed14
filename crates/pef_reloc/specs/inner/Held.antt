-- A run as the program holds it: the section's bytes are in memory.
use Rattle.std.specs.Prelude.{ℕ, ◌+◌, ◌*◌, ◌^◌, ◌<◌, ◌≤◌, Bool, List, length, take, drop, Result, Ok, Err}
use Rattle.big_memory.specs.Lists.{part}
use Rattle.big_memory.specs.Memory.{Memory}
use Rattle.pef_reloc.specs.declared.error.RelocError.{RelocError}
use Rattle.pef_reloc.specs.declared.cursor.Cursor.{Cursor}
use Rattle.pef_reloc.specs.declared.section.Source.{Source}
use Rattle.pef_reloc.specs.declared.section.Source.TheVariants.{FromC, FromD, FromImport, FromSection}
use Rattle.pef_reloc.specs.declared.section.Target.{Target}
use Rattle.pef_reloc.specs.Additions.{Sources, State, Refused, refused}

-- the section lies in memory, and the imports have numbers of 32 bits
pub record Fits (target : Target) (m : Memory) : Type 0 where
  pub inside : target.base + target.total ≤ length m.bytes
  pub few : length target.imports.now < 2 ^ 32

abbrev pub sources_of : Target → Sources
sources_of target = record { bases = target.bases.now; imports = target.imports.now }

abbrev pub section_of : Target → Memory → List ℕ
section_of target m = part target.base target.total m.bytes

abbrev pub state_of : Target → Memory → Cursor → State
state_of target m cursor = record { section = section_of target m; cursor = cursor }

-- the outcome that an answer shows
abbrev pub outcome_of : {T : Type 0} → Target → Result T RelocError → Memory → Cursor → Result State Refused
outcome_of target (Ok _) m cursor = Ok (state_of target m cursor)
outcome_of target (Err e) m cursor = refused e (state_of target m cursor)

-- memory without the section
pub record Outside : Type 0 where
  pub below : List ℕ
  pub above : List ℕ
  pub marks : List Bool

abbrev pub outside_of : Target → Memory → Outside
outside_of target m =
    record {
      below = take target.base m.bytes;
      above = drop (target.base + target.total) m.bytes;
      marks = m.marks;
    }

-- there is a number for the next import
abbrev pub HasNext : Source → Cursor → Type 0
HasNext FromC cursor = Unit {0}
HasNext FromD cursor = Unit {0}
HasNext FromImport cursor = cursor.index + 1 < 2 ^ 32
HasNext (FromSection n) cursor = Unit {0}

-- a bound of the position that no instruction raises: none moves by more than 2^36
abbrev pub budget : Cursor → ℕ
budget cursor = cursor.position + cursor.left * 2 ^ 36
