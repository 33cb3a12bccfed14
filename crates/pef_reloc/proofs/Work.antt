-- How many instructions a run takes.
use Rattle.std.proofs.Common.{◌≡◌, ◌≢◌, ◌∙◌, refl, sym, subst, ℕ, zero, suc, ◌+◌, ◌-◌, ◌*◌, ◌%◌, ◌^◌, ◌==◌, ◌<◌, ◌≤◌, nat_lt, nat_le, if◌then◌else◌, Bool, true, false, List, [], ◌∷◌, length, slice_index, Some, None, Result, Ok, Err, arith}
use Rattle.std.proofs.lemmas.Bool.Decides.{nat_tests}
use Rattle.std.proofs.Math.Nat.{add_comm, suc-mul}
use Rattle.pef_reloc.specs.declared.cursor.Cursor.{Cursor}
use Rattle.pef_reloc.specs.declared.error.RelocError.{RelocError}
use Rattle.pef_reloc.specs.declared.error.RelocError.TheVariants.{OutsideSection, ImportIndex, SectionIndex, RepeatFront, Short, Work}
use Rattle.pef_reloc.specs.declared.section.Source.{Source}
use Rattle.pef_reloc.specs.declared.section.Source.TheVariants.{FromC, FromD, FromImport, FromSection}
use Rattle.pef_reloc.specs.declared.instruction.Instruction.{Instruction}
use Rattle.pef_reloc.specs.declared.instruction.First.{First}
use Rattle.pef_reloc.specs.declared.instruction.First.TheVariants.{One, Two, Repeat, NoRow}
use Rattle.pef_reloc.specs.declared.instruction.Reading.TheVariants.{Whole}
use Rattle.pef_reloc.specs.Rows.{first_of, whole_of}
use Rattle.mix_bits.specs.Results.{◌>>=◌}
use Rattle.pef_reloc.specs.Additions.{Operation, Add, Skip, Place, Import, SetC, SetD, Sources, State, Refused, refused, added, allowed, counted, does, executed, finished, given, operations, runs, value_of}
use Rattle.pef_reloc.specs.inner.Additions.{base_of}
use Rattle.pef_reloc.specs.Program.{each_by, end_of, read_and_run, reading_by, repeated, run_span, run_times, start}
use Rattle.pef_reloc.specs.inner.Program.{run_at, run_in_span, run_words}
use Rattle.pef_reloc.specs.ProgramClauses.{can_repeat, span_at, width_at}
use Rattle.mix_bits.specs.Fields.{word_at}
use Rattle.pef_reloc.specs.laws.Laws.{IsBeyondLimit, IsWithinLimit, repeat_work, span_work, summed_by, work_by, work_of}

-- it takes so many of the instructions that are left, or ends at the limit with fewer left
abbrev Spends : ℕ → State → Result State Refused → Type 0
Spends n s (Ok t) = (t.cursor.over ≡ false) × (t.cursor.left + n ≡ s.cursor.left)
Spends n s (Err r) = r.error ≡ Work → s.cursor.left < n

-- it takes none, and ends by the limit only where the instruction is one too many
abbrev Keeps : State → Result State Refused → Type 0
Keeps s (Ok t) = (t.cursor.left ≡ s.cursor.left) × (t.cursor.over ≡ s.cursor.over)
Keeps s (Err r) = r.error ≡ Work → s.cursor.over ≡ true

abbrev IsOther : Result ℕ RelocError → Type 0
IsOther (Ok value) = Unit {0}
IsOther (Err e) = e ≢ Work

after_spends : (a b : ℕ) (s t : State) (r : Result State Refused) → t.cursor.left + a ≡ s.cursor.left → Spends b t r → Spends (a + b) s r
after_spends a b s t (Ok u) first more = (more.0, omega (arith, first, more.1))
after_spends a b s t (Err r) first more = λ is. omega (arith, first, more is)

then_spends : (a b : ℕ) (s : State) (r : Result State Refused) (next : State → Result State Refused) → Spends a s r
    → ((t : State) → t.cursor.over ≡ false → Spends b t (next t)) → Spends (a + b) s (r >>= next)
then_spends a b s (Ok t) next first more = after_spends a b s t (next t) first.1 (more t first.0)
then_spends a b s (Err r) next first more = λ is. omega (arith, first is)

then_keeps : (s : State) (r : Result State Refused) (next : State → Result State Refused) → Keeps s r → ((t : State) → Keeps t (next t)) → Keeps s (r >>= next)
then_keeps s (Ok t) next first more = by (next t) (more t)
  where
    by : (r : Result State Refused) → Keeps t r → Keeps s r
    by (Ok u) h = (h.0 ∙ first.0, h.1 ∙ first.1)
    by (Err r) h = λ is. sym first.1 ∙ h is
then_keeps s (Err r) next first more = first

given_keeps : (s : State) (value : Result ℕ RelocError) (next : ℕ → State) → IsOther value
    → ((n : ℕ) → Keeps s (Ok (next n))) → Keeps s (given (allowed s.cursor value) s next)
given_keeps s (Ok v) next other same = by s.cursor.over refl
  where
    by : (over : Bool) → s.cursor.over ≡ over → Keeps s (given (if over then Err Work else Ok v) s next)
    by true q = λ is. q
    by false q = same v
given_keeps s (Err e) next other same = λ is. absurd (other is)

tested_other : (test : Bool) (value : ℕ) (e : RelocError) → e ≢ Work → IsOther (if test then Ok value else Err e)
tested_other true value e other = tt
tested_other false value e other = other

value_other : (sources : Sources) (source : Source) (cursor : Cursor) → IsOther (value_of sources source cursor)
value_other sources FromC cursor = tt
value_other sources FromD cursor = tt
value_other sources FromImport cursor = tested_other (nat_lt cursor.index (length sources.imports)) (slice_index sources.imports cursor.index) (ImportIndex cursor.index) (λ is. absurd (cc))
value_other sources (FromSection n) cursor = tested_other (nat_lt n (length sources.bases)) (slice_index sources.bases n) (SectionIndex n) (λ is. absurd (cc))

passed_keeps : (source : Source) (s : State) (n : ℕ) → Keeps s (Ok (added source s n))
passed_keeps FromC s n = (refl, refl)
passed_keeps FromD s n = (refl, refl)
passed_keeps FromImport s n = (refl, refl)
passed_keeps (FromSection k) s n = (refl, refl)

does_keeps : (sources : Sources) (o : Operation) (s : State) → Keeps s (does sources o s)
does_keeps sources (Add source) s = by (nat_lt (length s.section) (s.cursor.position + 4))
  where
    by : (test : Bool) → Keeps s (if test then refused (OutsideSection (s.cursor.position % 2 ^ 32)) s else given (allowed s.cursor (value_of sources source s.cursor)) s (added source s))
    by true = λ is. absurd (cc)
    by false = given_keeps s (value_of sources source s.cursor) (added source s) (value_other sources source s.cursor) (passed_keeps source s)
does_keeps sources (Skip n) s = (refl, refl)
does_keeps sources (Place n) s = (refl, refl)
does_keeps sources (Import n) s = (refl, refl)
does_keeps sources (SetC n) s =
    given_keeps s (base_of sources n) (λ base. record s { cursor = record s.cursor { c = base } }) (tested_other (nat_lt n (length sources.bases)) (slice_index sources.bases n) (SectionIndex n) (λ is. absurd (cc))) (λ base. (refl, refl))
does_keeps sources (SetD n) s =
    given_keeps s (base_of sources n) (λ base. record s { cursor = record s.cursor { d = base } }) (tested_other (nat_lt n (length sources.bases)) (slice_index sources.bases n) (SectionIndex n) (λ is. absurd (cc))) (λ base. (refl, refl))

runs_keeps : (sources : Sources) (os : List Operation) (s : State) → Keeps s (runs sources os s)
runs_keeps sources [] s = (refl, refl)
runs_keeps sources (o ∷ os) s = then_keeps s (does sources o s) (runs sources os) (does_keeps sources o s) (λ t. runs_keeps sources os t)

-- an instruction that is counted, and ends
ended_spends : (s : State) (r : Result State Refused) → Keeps (counted s) r → Spends 1 s (r >>= finished)
ended_spends s (Ok u) keeps = by u.cursor.over refl
  where
    by : (over : Bool) → u.cursor.over ≡ over → Spends 1 s (if over then refused Work u else Ok u)
    by true q = λ is. let none : (s.cursor.left == 0) ≡ true = sym keeps.1 ∙ q in grind (arith, nat_tests, none)
    by false q =
        let some : (s.cursor.left == 0) ≡ false = sym keeps.1 ∙ q in
        let left : u.cursor.left ≡ s.cursor.left - 1 = keeps.0 in
        (q, grind (arith, nat_tests, some, left))
ended_spends s (Err r) keeps = λ is. let none : (s.cursor.left == 0) ≡ true = keeps is in grind (arith, nat_tests, none)

executed_spends : (sources : Sources) (i : Instruction) (s : State) → Spends 1 s (executed sources i s)
executed_spends sources i s = ended_spends s (runs sources (operations i) (counted s)) (runs_keeps sources (operations i) (counted s))

-- what stands at a place is read and run
read_spends : (sources : Sources) (words : List ℕ) (place : ℕ) (again : ℕ → ℕ → State → Result State Refused) (number : ℕ → ℕ → ℕ) (f : First) (s : State)
    → ((count further : ℕ) → Spends (number count further) s (again count further s)) → Spends (work_by number f) s (read_and_run sources again (reading_by words place f) s)
read_spends sources words place again number (One i) s more = executed_spends sources i s
read_spends sources words place again number (Two large high) s more = by (nat_lt (length words) (place + 4))
  where
    by : (test : Bool) → Spends 1 s (read_and_run sources again (if test then Err (Short place) else Ok (Whole (whole_of large (high * 65536 + word_at words (place + 2))))) s)
    by true = λ is. absurd (cc)
    by false = executed_spends sources (whole_of large (high * 65536 + word_at words (place + 2))) s
read_spends sources words place again number (Repeat count further) s more = more count further
read_spends sources words place again number NoRow s more = λ is. absurd (cc)

each_spends : (n : ℕ) (words : List ℕ) (step : ℕ → State → Result State Refused) (number : ℕ → ℕ) (place : ℕ) (s : State)
    → ((at : ℕ) (t : State) → t.cursor.over ≡ false → Spends (number at) t (step at t)) → s.cursor.over ≡ false → Spends (summed_by n words number place) s (each_by n words step place s)
each_spends zero words step number place s more going = (going, omega arith)
each_spends (suc n) words step number place s more going =
    by (λ t next. each_spends n words step number (place + width_at words place) t more next) (nat_le (place + 2) (length words))
  where
    by : ((t : State) → t.cursor.over ≡ false → Spends (summed_by n words number (place + width_at words place)) t (each_by n words step (place + width_at words place) t))
        → (test : Bool)
        → Spends (if test then number place + summed_by n words number (place + width_at words place) else 0) s
        (if test then (step place s >>= each_by n words step (place + width_at words place)) else Ok s)
    by later true =
        then_spends (number place) (summed_by n words number (place + width_at words place)) s (step place s) (each_by n words step (place + width_at words place)) (more place s going)
        later
    by later false = (going, omega arith)

span_spends : (sources : Sources) (span : List ℕ) (s : State) → s.cursor.over ≡ false → Spends (span_work span) s (run_span sources span s)
span_spends sources span s going =
    each_spends (length span - 0) span (run_in_span sources span) (λ place. work_by (λ count further. 0) (first_of (word_at span place))) 0 s
    (λ at t next. read_spends sources span at (λ _ _ u. Ok u) (λ count further. 0) (first_of (word_at span at)) t (λ count further. (next, omega arith))) going

times_spends : (sources : Sources) (span : List ℕ) (n : ℕ) (s : State) → s.cursor.over ≡ false → Spends (n * span_work span) s (run_times sources span n s)
times_spends sources span zero s going = (going, omega arith)
times_spends sources span (suc n) s going =
    let work : span_work span + n * span_work span ≡ suc n * span_work span = sym (suc-mul n (span_work span) ∙ add_comm (n * span_work span) (span_work span)) in
    subst (λ (w : ℕ). Spends w s (run_span sources span s >>= run_times sources span n)) work
    (then_spends (span_work span) (n * span_work span) s (run_span sources span s) (run_times sources span n) (span_spends sources span s going) (λ t next. times_spends sources span n t next))

repeated_spends : (sources : Sources) (words : List ℕ) (place count further : ℕ) (s : State) → Spends (repeat_work words place count further) s (repeated sources words place count further s)
repeated_spends sources words place count further s = by (can_repeat words place count)
  where
    by : (test : Bool)
        → Spends (repeat_work words place count further) s
        (if test then (finished (counted s) >>= run_times sources (span_at words place count) further) else refused (RepeatFront place) s)
    by true =
        then_spends 1 (further * span_work (span_at words place count)) s (finished (counted s)) (run_times sources (span_at words place count) further)
        (ended_spends s (Ok (counted s)) (refl, refl)) (λ t next. times_spends sources (span_at words place count) further t next)
    by false = λ is. absurd (cc)

words_spend : (sources : Sources) (words : List ℕ) (s : State) → s.cursor.over ≡ false → Spends (work_of words) s (run_words sources words s)
words_spend sources words s going =
    each_spends (length words - 0) words (run_at sources words) (λ place. work_by (repeat_work words place) (first_of (word_at words place))) 0 s
    (λ at t next. read_spends sources words at (repeated sources words at) (repeat_work words at) (first_of (word_at words at)) t (λ count further. repeated_spends sources words at count further t)) going

abbrev first_state : Sources → List ℕ → State
first_state sources section = record { section = section; cursor = start sources.bases }

pub is_within_limit : IsWithinLimit
is_within_limit sources words section =
    by (run_words sources words (first_state sources section)) (words_spend sources words (first_state sources section) refl)
  where
    by : (r : Result State Refused) → Spends (work_of words) (first_state sources section) r → (end_of r).refusal ≡ None → work_of words ≤ 16777216
    by (Ok t) spends none = omega (arith, spends.1)
    by (Err r) spends none = absurd (cc)

pub is_beyond_limit : IsBeyondLimit
is_beyond_limit sources words section =
    by (run_words sources words (first_state sources section)) (words_spend sources words (first_state sources section) refl)
  where
    by : (r : Result State Refused) → Spends (work_of words) (first_state sources section) r → (end_of r).refusal ≡ Some Work → 16777216 < work_of words
    by (Ok t) spends limit = absurd (cc)
    by (Err r) spends limit =
        let is : r.error ≡ Work = cc in
        omega (arith, spends is)
