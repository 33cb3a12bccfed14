-- What holds of pattern data, of the table of relocations, and of runs of them as a whole.
use Rattle.std.specs.Prelude.{◌≡◌, ℕ, zero, suc, ◌+◌, ◌-◌, ◌*◌, ◌/◌, ◌<◌, ◌≤◌, ◌==◌, ◌↔◌, ◌⊎◌, nat_le, ◌&&◌, Bool, true, false, if◌then◌else◌, List, [], ◌∷◌, ◌++◌, length, slice_index, All, Option, Some, None, Result, Ok, Err}
use Rattle.pef_reloc.specs.declared.program.TheConstants.{WORK_LIMIT}
use Rattle.std.specs.Int.{from_bool}
use Rattle.pef_reloc.specs.declared.error.RelocError.{RelocError}
use Rattle.pef_reloc.specs.declared.error.RelocError.TheVariants.{RepeatFront, Work}
use Rattle.pef_reloc.specs.declared.instruction.Instruction.{Instruction}
use Rattle.pef_reloc.specs.declared.instruction.Instruction.TheVariants.{BySectDWithSkip, Run, ByImport, SetSectC, SetSectD, BySection, IncrPosition, SetPosition}
use Rattle.pef_reloc.specs.declared.instruction.Turn.{Turn}
use Rattle.pef_reloc.specs.declared.instruction.Turn.TheVariants.{SectC, SectD, TVector12, TVector8, VTable8, ImportRun}
use Rattle.pef_reloc.specs.declared.instruction.Large.{Large}
use Rattle.pef_reloc.specs.declared.instruction.Large.TheVariants.{LgSetPosition, LgByImport, LgBySection, LgSetSectC, LgSetSectD}
use Rattle.pef_reloc.specs.declared.instruction.First.{First}
use Rattle.pef_reloc.specs.declared.instruction.First.TheVariants.{One, Two, Repeat, NoRow}
use Rattle.pef_reloc.specs.Pattern.{with_rest, unpacked}
use Rattle.pef_reloc.specs.PatternClauses.{piece_in}
use Rattle.pef_reloc.specs.Rows.{Row, rows, first_of}
use Rattle.pef_reloc.specs.Additions.{Sources, State, Refused, Operation, Add, Skip, Place, Import, SetC, SetD, does}
use Rattle.pef_reloc.specs.AdditionsClauses.{with_long}
use Rattle.pef_reloc.specs.Program.{relocated, is_repeat, is_span, repeated}
use Rattle.pef_reloc.specs.ProgramClauses.{can_repeat, span_at, width_at}
use Rattle.mix_bits.specs.Fields.{word_at}

-- pattern data writes the pieces of its instructions, one after the other
pub data Writes : List ℕ → List ℕ → Type 0 where
  Ends : (bytes written : List ℕ) → bytes ≡ [] → written ≡ [] → Writes bytes written
  Then : (bytes piece rest later written : List ℕ) → piece_in bytes ≡ Some (with_rest piece rest)
      → Writes rest later → written ≡ piece ++ later → Writes bytes written

-- it unpacks exactly where what it writes fills the room
abbrev pub UnpacksPieces : Type 0
UnpacksPieces = (bytes : List ℕ) (room : ℕ) (written : List ℕ)
    → (unpacked bytes room ≡ record { written = written; refusal = None }) ↔ (Writes bytes written × (length written ≡ room))

abbrev pub turn_code : Turn → ℕ
turn_code SectC = 0x20
turn_code SectD = 0x21
turn_code TVector12 = 0x22
turn_code TVector8 = 0x23
turn_code VTable8 = 0x24
turn_code ImportRun = 0x25

-- the word of an instruction of one word; of SetPosition, which has two, the first
abbrev pub word_of : Instruction → ℕ
word_of (BySectDWithSkip skip count) = skip * 64 + count
word_of (Run turn count) = turn_code turn * 512 + (count - 1)
word_of (ByImport n) = 0x6000 + n
word_of (SetSectC n) = 0x6200 + n
word_of (SetSectD n) = 0x6400 + n
word_of (BySection n) = 0x6600 + n
word_of (IncrPosition n) = 0x8000 + (n - 1)
word_of (SetPosition n) = 0xA000 + n / 65536

-- the first word of an instruction of two, but for its number
abbrev pub large_code : Large → ℕ
large_code LgSetPosition = 0xA000
large_code LgByImport = 0xA400
large_code LgBySection = 0xB400
large_code LgSetSectC = 0xB440
large_code LgSetSectD = 0xB480

-- the word that begins so, if one does
abbrev pub is_spelled : ℕ → First → Bool
is_spelled word (One i) = word_of i == word
is_spelled word (Two large high) = large_code large + high == word
is_spelled word (Repeat count further) = 0x9000 + (count - 1) * 256 + (further - 1) == word
is_spelled word NoRow = true

-- how many rows have these top seven bits
abbrev pub rows_with : List Row → ℕ → ℕ
rows_with [] top = 0
rows_with (r ∷ rs) top = (if nat_le r.from top && nat_le top r.to then 1 else 0) + rows_with rs top

-- no word has two rows
abbrev pub HasOneRow : Type 0
HasOneRow = (top : ℕ) → top < 128 → rows_with rows top < 2

-- what a word begins gives the word back
abbrev pub IsSpelled : Type 0
IsSpelled = (word : ℕ) → word < 65536 → is_spelled word (first_of word) ≡ true

-- how many of the 2 ^ k numbers from 2 ^ k * base on pass a test
abbrev pub passing : ℕ → ℕ → (ℕ → Bool) → ℕ
passing zero base test = from_bool (test base)
passing (suc k) base test = passing k (base * 2) test + passing k (base * 2 + 1) test

abbrev pub has_row : First → Bool
has_row (One i) = true
has_row (Two large high) = true
has_row (Repeat count further) = true
has_row NoRow = false

-- so many of the 65536 words have a row
abbrev pub HasAllRows : Type 0
HasAllRows = passing 16 0 (λ word. has_row (first_of word)) ≡ 31936

-- an addition: the position of a long in the section, and what is added to it
pub record Addition : Type 0 where
  pub position : ℕ
  pub value : ℕ

-- a section's bytes after additions, one after the other
abbrev pub with_additions : List Addition → List ℕ → List ℕ
with_additions [] section = section
with_additions (a ∷ later) section = with_additions later (with_long a.position a.value section)

abbrev pub IsItem : List ℕ → ℕ → Type 0
IsItem items value = (n : ℕ) × (n < length items) × (value ≡ slice_index items n)

-- 0, the base of a section, or the address of an import
abbrev pub IsAddend : Sources → ℕ → Type 0
IsAddend sources value = (value ≡ 0) ⊎ (IsItem sources.bases value ⊎ IsItem sources.imports value)

-- the long lies in a section of this size, and nothing else is added to it
pub record IsAddition (sources : Sources) (total : ℕ) (a : Addition) : Type 0 where
  pub within : a.position + 4 ≤ total
  pub addend : IsAddend sources a.value

-- what relocation words do to each section of a size, whatever its bytes are: additions, and at last a refusal or none
pub record Plan (sources : Sources) (words : List ℕ) (total : ℕ) : Type 0 where
  pub additions : List Addition
  pub refusal : Option RelocError
  pub sound : All (IsAddition sources total) additions
  pub makes : (section : List ℕ) → length section ≡ total
      → relocated sources words section ≡ record { section = with_additions additions section; refusal = refusal }

-- the additions depend on the sources, the words and the size of the section, and not on its bytes
abbrev pub HasPlan : Type 0
HasPlan = (sources : Sources) (words : List ℕ) (total : ℕ) → Plan sources words total

-- a section keeps its size, also where a word is refused
abbrev pub KeepsSize : Type 0
KeepsSize = (sources : Sources) (words section : List ℕ) → length (relocated sources words section).section ≡ length section

-- whether relocations are refused, and why, depends on sizes alone: neither on where sections and imports stand nor on the section's bytes
abbrev pub HasSameRefusal : Type 0
HasSameRefusal = (one other : Sources) (words section later : List ℕ)
    → length one.bases ≡ length other.bases → length one.imports ≡ length other.imports → length section ≡ length later
    → (relocated one words section).refusal ≡ (relocated other words later).refusal

-- a number for each instruction from a place on, at most n of them, in sum
abbrev pub summed_by : ℕ → List ℕ → (ℕ → ℕ) → ℕ → ℕ
summed_by zero words number place = 0
summed_by (suc n) words number place =
    if nat_le (place + 2) (length words) then number place + summed_by n words number (place + width_at words place) else 0

abbrev pub summed : List ℕ → (ℕ → ℕ) → ℕ
summed words number = summed_by (length words - 0) words number 0

-- an instruction counts once; `again` says how often a repeat does
abbrev pub work_by : (ℕ → ℕ → ℕ) → First → ℕ
work_by again (One i) = 1
work_by again (Two large high) = 1
work_by again (Repeat count further) = again count further
work_by again NoRow = 1

-- how many instructions a span has that is repeated: none of them is a repeat
abbrev pub span_work : List ℕ → ℕ
span_work span = summed span (λ place. work_by (λ count further. 0) (first_of (word_at span place)))

-- how many instructions a run of all words takes: a repeat is one, and each of its span is one again, each further time
abbrev pub repeat_work : List ℕ → ℕ → ℕ → ℕ → ℕ
repeat_work words place count further = 1 + further * span_work (span_at words place count)

abbrev pub work_of : List ℕ → ℕ
work_of words = summed words (λ place. work_by (repeat_work words place) (first_of (word_at words place)))

-- a run that is not refused takes no more instructions than the limit
abbrev pub IsWithinLimit : Type 0
IsWithinLimit = (sources : Sources) (words section : List ℕ) → (relocated sources words section).refusal ≡ None → work_of words ≤ WORK_LIMIT

-- and the limit refuses none that takes no more
abbrev pub IsBeyondLimit : Type 0
IsBeyondLimit = (sources : Sources) (words section : List ℕ) → (relocated sources words section).refusal ≡ Some Work → WORK_LIMIT < work_of words

-- an operation in an instruction that is one too many, or in one that is not
abbrev pub when_over : Bool → State → State
when_over over s = record s { cursor = record s.cursor { over = over } }

-- whether an operation asks for a value
abbrev pub asks : Operation → Bool
asks (Add source) = true
asks (Skip n) = false
asks (Place n) = false
asks (Import n) = false
asks (SetC n) = true
asks (SetD n) = true

abbrev pub refusal_of : Result State Refused → Option RelocError
refusal_of (Ok s) = None
refusal_of (Err r) = Some r.error

-- a refusal, or else that of one too many where a value is asked for
abbrev pub else_work : Option RelocError → Bool → Option RelocError
else_work (Some e) asking = Some e
else_work None asking = if asking then Some Work else None

-- Work comes last: an operation of an instruction that is one too many is refused as it would be in one that is not, and for
-- the work alone where it would not be
abbrev pub IsWorkLast : Type 0
IsWorkLast = (sources : Sources) (o : Operation) (s : State)
    → refusal_of (does sources o (when_over true s)) ≡ else_work (refusal_of (does sources o (when_over false s))) (asks o)

-- a state whose work is used up
abbrev pub without_work : State → State
without_work s = record s { cursor = record s.cursor { left = 0 } }

-- where no work is left, a repeat that cannot go back is refused for that, and any other for the work
abbrev pub IsRepeatWorkLast : Type 0
IsRepeatWorkLast = (sources : Sources) (words : List ℕ) (place count further : ℕ) (s : State)
    → refusal_of (repeated sources words place count further (without_work s)) ≡ Some (if can_repeat words place count then Work else RepeatFront place)

-- instructions, none of them a repeat, fill a span from a place on
pub data Fills : List ℕ → ℕ → Type 0 where
  Filled : (span : List ℕ) (place : ℕ) → length span < place + 2 → Fills span place
  Next : (span : List ℕ) (place : ℕ) → place + 2 ≤ length span → is_repeat (first_of (word_at span place)) ≡ false
      → place + width_at span place ≤ length span → Fills span (place + width_at span place) → Fills span place

-- a span can be repeated exactly where such instructions fill it
abbrev pub IsFilledSpan : Type 0
IsFilledSpan = (span : List ℕ) → (is_span span ≡ true) ↔ Fills span 0
