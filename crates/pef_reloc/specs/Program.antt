-- Relocation words as a program (Inside Macintosh: Mac OS Runtime Architectures, chapter "PEF
-- Structure"). A place counts in bytes from the first of them.
--
-- Repeats, the limit of work and the order of refusals are this project's own.
use Rattle.std.specs.Prelude.{ℕ, zero, suc, ◌+◌, ◌-◌, ◌*◌, nat_lt, nat_le, Bool, true, false, if◌then◌else◌, List, length, slice_index, Option, Some, None, Result, Ok, Err, ◌&&◌}
use Rattle.pef_reloc.specs.declared.program.TheConstants.{WORK_LIMIT}
use Rattle.std.specs.Result.{is_ok}
use Rattle.mix_bits.specs.Fields.{word_at}
use Rattle.pef_reloc.specs.declared.error.RelocError.{RelocError}
use Rattle.pef_reloc.specs.declared.error.RelocError.TheVariants.{Short, Unsupported, RepeatFront}
use Rattle.pef_reloc.specs.declared.instruction.First.{First}
use Rattle.pef_reloc.specs.declared.instruction.First.TheVariants.{One, Two, Repeat, NoRow}
use Rattle.pef_reloc.specs.declared.instruction.Reading.{Reading}
use Rattle.pef_reloc.specs.declared.instruction.Reading.TheVariants.{Whole, Again}
use Rattle.pef_reloc.specs.declared.cursor.Cursor.{Cursor}
use Rattle.pef_reloc.specs.Rows.{first_of, whole_of}
use Rattle.mix_bits.specs.Results.{◌>>=◌}
use Rattle.pef_reloc.specs.Additions.{Sources, State, Refused, refused, counted, finished, executed}
use Rattle.big_memory.specs.Lists.{part}

-- how many bytes it has; what is no instruction has those of its word
abbrev pub width : First → ℕ
width (Two large high) = 4
width _ = 2

abbrev pub is_repeat : First → Bool
is_repeat (Repeat count further) = true
is_repeat _ = false

-- the instruction that begins so
abbrev pub reading_by : List ℕ → ℕ → First → Result Reading RelocError
reading_by words place (One i) = Ok (Whole i)
reading_by words place (Two large high) =
    if nat_lt (length words) (place + 4) then Err (Short place)
    else Ok (Whole (whole_of large (high * 65536 + word_at words (place + 2))))
reading_by words place (Repeat count further) = Ok (Again count further)
reading_by words place NoRow = Err (Unsupported (word_at words place))

abbrev pub reading_at : List ℕ → ℕ → Result Reading RelocError
reading_at words place = reading_by words place (first_of (word_at words place))

-- a step at each instruction from a place on, at most n of them, up to the first refusal
abbrev pub each_by : {S E : Type 0} → ℕ → List ℕ → (ℕ → S → Result S E) → ℕ → S → Result S E
each_by zero words step place s = Ok s
each_by (suc n) words step place s =
    if nat_le (place + 2) (length words)
    then step place s >>= each_by n words step (place + width (first_of (word_at words place)))
    else Ok s

-- a step at each instruction from a place on: there are no more than bytes
abbrev pub each : {S E : Type 0} → List ℕ → (ℕ → S → Result S E) → ℕ → S → Result S E
each words step place s = each_by (length words - place) words step place s

-- what stands there is run; a repeat does what `again` says
abbrev pub read_and_run : Sources → (ℕ → ℕ → State → Result State Refused) → Result Reading RelocError → State → Result State Refused
read_and_run sources again (Ok (Whole i)) s = executed sources i s
read_and_run sources again (Ok (Again count further)) s = again count further s
read_and_run sources again (Err e) s = refused e s

-- a span that is repeated has no repeat of its own
abbrev pub run_span : Sources → List ℕ → State → Result State Refused
run_span sources span s = each span (λ place. read_and_run sources (λ _ _ t. Ok t) (reading_at span place)) 0 s

abbrev pub run_times : Sources → List ℕ → ℕ → State → Result State Refused
run_times sources span zero s = Ok s
run_times sources span (suc n) s = run_span sources span s >>= run_times sources span n

-- what stands there is no repeat, and ends within the span
abbrev pub fits_in : List ℕ → ℕ → Bool
fits_in span place =
    let first = first_of (word_at span place) in
    if is_repeat first then false else nat_le (place + width first) (length span)

abbrev pub is_span : List ℕ → Bool
is_span span = is_ok (each span (λ place b. if fits_in span place then Ok b else Err b) 0 true)

-- a repeat counts as an instruction, and so does each one that it runs of the words that it goes back over
abbrev pub repeated : Sources → List ℕ → ℕ → ℕ → ℕ → State → Result State Refused
repeated sources words place count further s =
    let span = part (place - 2 * count) (2 * count) words in
    if nat_le (2 * count) place && is_span span
    then finished (counted s) >>= run_times sources span further
    else refused (RepeatFront place) s

-- sections C and D are at first sections 0 and 1, and count as at 0 where they are missing
abbrev pub start : List ℕ → Cursor
start bases =
    record {
      position = 0;
      index = 0;
      c = slice_index bases 0;
      d = slice_index bases 1;
      left = WORK_LIMIT;
      over = false;
    }

-- the section's bytes, and why no more was done
pub record Relocated : Type 0 where
  pub section : List ℕ
  pub refusal : Option RelocError

abbrev pub end_of : Result State Refused → Relocated
end_of (Ok s) = record { section = s.section; refusal = None }
end_of (Err r) = record { section = r.section; refusal = Some r.error }

-- what relocation words make of a section
abbrev pub relocated : Sources → List ℕ → List ℕ → Relocated
relocated sources words section =
    end_of (each words (λ place. read_and_run sources (repeated sources words place) (reading_at words place)) 0
    (record { section = section; cursor = start sources.bases }))
