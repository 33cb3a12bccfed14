-- Relocations as additions to the longs of a section (Inside Macintosh: Mac OS Runtime Architectures,
-- chapter "PEF Structure").
--
-- The order of refusals is this project's own: an addition is refused first where its long leaves the
-- section, then where what it adds is missing, and last where its instruction is one too many.
use Rattle.std.specs.Prelude.{ℕ, ◌+◌, ◌*◌, ◌%◌, ◌^◌, nat_lt, if◌then◌else◌, List, [], ◌∷◌, length, Result, Ok, Err, ◌==◌, ◌-◌, slice_index}
use Rattle.mix_bits.specs.Results.{◌>>=◌}
use Rattle.pef_reloc.specs.declared.error.RelocError.{RelocError}
use Rattle.pef_reloc.specs.declared.error.RelocError.TheVariants.{OutsideSection, Work, ImportIndex, SectionIndex}
use Rattle.pef_reloc.specs.declared.cursor.Cursor.{Cursor}
use Rattle.pef_reloc.specs.declared.section.Source.{Source}
use Rattle.pef_reloc.specs.declared.section.Source.TheVariants.{FromC, FromD, FromImport, FromSection}
use Rattle.pef_reloc.specs.declared.instruction.Instruction.{Instruction}
use Rattle.pef_reloc.specs.declared.instruction.Instruction.TheVariants.{BySectDWithSkip, Run, ByImport, SetSectC, SetSectD, BySection, IncrPosition, SetPosition}
use Rattle.pef_reloc.specs.declared.instruction.Turn.{Turn}
use Rattle.pef_reloc.specs.declared.instruction.Turn.TheVariants.{SectC, SectD, TVector12, TVector8, VTable8, ImportRun}
use Rattle.pef_reloc.specs.Lists.{times}
use Rattle.byteorder.specs.Endian.{big_bytes}
use Rattle.big_memory.specs.Lists.{put}
use Rattle.big_memory.specs.Numbers.{long_at}

-- where the sections stand, and the addresses of the imports
pub record Sources : Type 0 where
  pub bases : List ℕ
  pub imports : List ℕ

-- the section's bytes, and the rest of the state
pub record State : Type 0 where
  pub section : List ℕ
  pub cursor : Cursor

-- the section's bytes so far, and why no more was done
pub record Refused : Type 0 where
  pub section : List ℕ
  pub error : RelocError

abbrev pub refused : RelocError → State → Result State Refused
refused error s = Err (record { section = s.section; error = error })

-- one of the things that an instruction does
pub data Operation : Type 0 where
  Add : (source : Source) → Operation
  Skip : (n : ℕ) → Operation
  Place : (n : ℕ) → Operation
  Import : (n : ℕ) → Operation
  SetC : (n : ℕ) → Operation
  SetD : (n : ℕ) → Operation

abbrev pub value_of : Sources → Source → Cursor → Result ℕ RelocError
value_of sources FromC cursor = Ok cursor.c
value_of sources FromD cursor = Ok cursor.d
value_of sources FromImport cursor =
    if nat_lt cursor.index (length sources.imports) then Ok (slice_index sources.imports cursor.index) else Err (ImportIndex cursor.index)
value_of sources (FromSection n) cursor =
    if nat_lt n (length sources.bases) then Ok (slice_index sources.bases n) else Err (SectionIndex n)

-- a value, unless the instruction that asks for it is one too many
abbrev pub allowed : Cursor → Result ℕ RelocError → Result ℕ RelocError
allowed cursor (Ok value) = if cursor.over then Err Work else Ok value
allowed cursor (Err e) = Err e

-- the state with a value
abbrev pub given : Result ℕ RelocError → State → (ℕ → State) → Result State Refused
given (Ok value) s next = Ok (next value)
given (Err e) s next = refused e s

-- behind an addition: an import is followed by the next one
abbrev pub passed : Source → Cursor → Cursor
passed FromImport cursor = record cursor { position = cursor.position + 4; index = cursor.index + 1 }
passed _ cursor = record cursor { position = cursor.position + 4 }

abbrev pub added : Source → State → ℕ → State
added source s value =
    record {
      section = put s.cursor.position (big_bytes 4 ((long_at s.cursor.position s.section + value) % 2 ^ 32)) s.section;
      cursor = passed source s.cursor;
    }

abbrev pub does : Sources → Operation → State → Result State Refused
does sources (Add source) s =
    if nat_lt (length s.section) (s.cursor.position + 4)
    then refused (OutsideSection (s.cursor.position % 2 ^ 32)) s
    else given (allowed s.cursor (value_of sources source s.cursor)) s (added source s)
does sources (Skip n) s = Ok (record s { cursor = record s.cursor { position = s.cursor.position + n } })
does sources (Place n) s = Ok (record s { cursor = record s.cursor { position = n } })
does sources (Import n) s = Ok (record s { cursor = record s.cursor { index = n } })
does sources (SetC n) s =
    given (allowed s.cursor (value_of sources (FromSection n) s.cursor)) s (λ base. record s { cursor = record s.cursor { c = base } })
does sources (SetD n) s =
    given (allowed s.cursor (value_of sources (FromSection n) s.cursor)) s (λ base. record s { cursor = record s.cursor { d = base } })

-- one operation after the other
abbrev pub runs : Sources → List Operation → State → Result State Refused
runs sources [] s = Ok s
runs sources (o ∷ os) s = does sources o s >>= runs sources os

-- what a turn of a run does
abbrev pub turn_of : Turn → List Operation
turn_of SectC = Add FromC ∷ []
turn_of SectD = Add FromD ∷ []
turn_of TVector12 = Add FromC ∷ Add FromD ∷ Skip 4 ∷ []
turn_of TVector8 = Add FromC ∷ Add FromD ∷ []
turn_of VTable8 = Add FromD ∷ Skip 4 ∷ []
turn_of ImportRun = Add FromImport ∷ []

-- what an instruction does
abbrev pub operations : Instruction → List Operation
operations (BySectDWithSkip skip count) = Skip (4 * skip) ∷ times count (Add FromD ∷ [])
operations (Run turn count) = times count (turn_of turn)
operations (ByImport n) = Import n ∷ Add FromImport ∷ []
operations (SetSectC n) = SetC n ∷ []
operations (SetSectD n) = SetD n ∷ []
operations (BySection n) = Add (FromSection n) ∷ []
operations (IncrPosition n) = Skip n ∷ []
operations (SetPosition n) = Place n ∷ []

-- the end of an instruction that was one too many, whatever it did
abbrev pub finished : State → Result State Refused
finished s = if s.cursor.over then refused Work s else Ok s

abbrev pub counted : State → State
counted s = record s { cursor = record s.cursor { left = s.cursor.left - 1; over = s.cursor.left == 0 } }

abbrev pub executed : Sources → Instruction → State → Result State Refused
executed sources i s = runs sources (operations i) (counted s) >>= finished
