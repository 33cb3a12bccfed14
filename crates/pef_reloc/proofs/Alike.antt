-- What relocation words add depends on no byte of the section.
use Rattle.std.proofs.Common.{◌≡◌, ◌∙◌, refl, ap, subst, ℕ, zero, suc, ◌+◌, ◌-◌, ◌%◌, ◌^◌, ◌≤◌, inl, inr, nat_lt, nat_le, if◌then◌else◌, Bool, true, false, List, [], ◌∷◌, ◌++◌, length, slice_index, Option, Some, None, Result, Ok, Err, arith}
use Rattle.std.specs.Prelude.{All}
use Rattle.std.proofs.lemmas.Bool.Decides.{nat_tests}
use Rattle.std.proofs.lemmas.List.Elements.{All-nil, All-cons, All-head, All-tail, All-append}
use Rattle.byteorder.specs.Endian.{big_bytes}
use Rattle.big_memory.specs.Numbers.{long_at}
use Rattle.big_memory.proofs.Lists.{length-put}
use Rattle.pef_reloc.specs.declared.cursor.Cursor.{Cursor}
use Rattle.pef_reloc.specs.declared.error.RelocError.{RelocError}
use Rattle.pef_reloc.specs.declared.error.RelocError.TheVariants.{ImportIndex, OutsideSection, RepeatFront, SectionIndex, Work}
use Rattle.pef_reloc.specs.declared.section.Source.{Source}
use Rattle.pef_reloc.specs.declared.section.Source.TheVariants.{FromC, FromD, FromImport, FromSection}
use Rattle.pef_reloc.specs.declared.instruction.Instruction.{Instruction}
use Rattle.pef_reloc.specs.declared.instruction.Reading.{Reading}
use Rattle.pef_reloc.specs.declared.instruction.Reading.TheVariants.{Whole, Again}
use Rattle.mix_bits.specs.Results.{◌>>=◌}
use Rattle.pef_reloc.specs.Additions.{Operation, Add, Skip, Place, Import, SetC, SetD, Sources, State, Refused, refused, added, allowed, counted, does, executed, finished, given, operations, passed, runs, value_of}
use Rattle.pef_reloc.specs.AdditionsClauses.{with_long}
use Rattle.pef_reloc.specs.inner.Additions.{base_of, begun, moved}
use Rattle.pef_reloc.specs.Program.{Relocated, each_by, end_of, read_and_run, reading_at, repeated, run_span, run_times, start}
use Rattle.pef_reloc.specs.inner.Program.{run_at, run_in_span, run_words}
use Rattle.pef_reloc.specs.ProgramClauses.{can_repeat, span_at, width_at}
use Rattle.pef_reloc.specs.laws.Laws.{Addition, HasPlan, IsAddend, IsAddition, IsItem, KeepsSize, Plan, with_additions}

abbrev state : List ℕ → Cursor → State
state section cursor = record { section = section; cursor = cursor }

-- an outcome for a section's bytes
abbrev shown : List Addition → Result Cursor RelocError → List ℕ → Result State Refused
shown additions (Ok cursor) section = Ok (state (with_additions additions section) cursor)
shown additions (Err e) section = Err (record { section = with_additions additions section; error = e })

additions_append : (first later : List Addition) (section : List ℕ) → with_additions later (with_additions first section) ≡ with_additions (first ++ later) section
additions_append [] later section = refl
additions_append (a ∷ first) later section = additions_append first later (with_long a.position a.value section)

shown_append : (first later : List Addition) (ends : Result Cursor RelocError) (section : List ℕ) → shown later ends (with_additions first section) ≡ shown (first ++ later) ends section
shown_append first later (Ok cursor) section = ap (λ (xs : List ℕ). Ok (state xs cursor)) (additions_append first later section)
shown_append first later (Err e) section = ap (λ (xs : List ℕ). let r : Refused = record { section = xs; error = e } in Err r) (additions_append first later section)

-- what sections C and D add
record IsReady (sources : Sources) (cursor : Cursor) : Type 0 where
  c : IsAddend sources cursor.c
  d : IsAddend sources cursor.d

abbrev AreReady : Sources → Result Cursor RelocError → Type 0
AreReady sources (Ok cursor) = IsReady sources cursor
AreReady sources (Err e) = Unit {0}

-- a part of a run does the same to all sections of a size
record Alike (sources : Sources) (total : ℕ) (f : State → Result State Refused) (cursor : Cursor) : Type 0 where
  additions : List Addition
  ends : Result Cursor RelocError
  sound : All (IsAddition sources total) additions
  ready : AreReady sources ends
  makes : (section : List ℕ) → length section ≡ total → f (state section cursor) ≡ shown additions ends section

abbrev tested : Source → Bool → Result ℕ RelocError → State → Result State Refused
tested source test value s = if test then refused (OutsideSection (s.cursor.position % 2 ^ 32)) s else given value s (added source s)

module _ (sources : Sources) (total : ℕ) where
  abbrev AllAlike : (State → Result State Refused) → Type 0
  AllAlike f = (cursor : Cursor) → IsReady sources cursor → Alike sources total f cursor

  long_length : (position value : ℕ) (section : List ℕ) → position + 4 ≤ length section → length (with_long position value section) ≡ length section
  long_length position value section within = length-put position (big_bytes 4 ((long_at position section + value) % 2 ^ 32)) section within

  additions_length : (additions : List Addition) (section : List ℕ) → All (IsAddition sources total) additions → length section ≡ total → length (with_additions additions section) ≡ total
  additions_length [] section sound long = long
  additions_length (a ∷ later) section sound long =
      let within : a.position + 4 ≤ length section = omega (arith, (All-head (IsAddition sources total) a later sound).within, long) in
      additions_length later (with_long a.position a.value section) (All-tail (IsAddition sources total) a later sound)
      (long_length a.position a.value section within ∙ long)

  -- nothing is added
  stays : (f : State → Result State Refused) (cursor : Cursor) (ends : Result Cursor RelocError) → AreReady sources ends
      → ((section : List ℕ) → length section ≡ total → f (state section cursor) ≡ shown [] ends section) → Alike sources total f cursor
  stays f cursor ends ready makes = record { additions = []; ends = ends; sound = All-nil (IsAddition sources total); ready = ready; makes = makes }

  then_alike : (f g : State → Result State Refused) (cursor : Cursor) → Alike sources total f cursor → AllAlike g → Alike sources total (λ s. f s >>= g) cursor
  then_alike f g cursor one more = by one.ends refl one.ready
    where
      by : (ends : Result Cursor RelocError) → one.ends ≡ ends → AreReady sources ends → Alike sources total (λ s. f s >>= g) cursor
      by (Err e) is ready = record {
        additions = one.additions;
        ends = Err e;
        sound = one.sound;
        ready = ready;
        makes = λ section long. ap (λ (r : Result State Refused). r >>= g) (one.makes section long ∙ ap (λ (r : Result Cursor RelocError). shown one.additions r section) is);
      }
      by (Ok next) is ready =
          let two : Alike sources total g next = more next ready in
          record {
            additions = one.additions ++ two.additions;
            ends = two.ends;
            sound = All-append (IsAddition sources total) one.additions two.additions one.sound two.sound;
            ready = two.ready;
            makes = λ section long. ap (λ (r : Result State Refused). r >>= g) (one.makes section long ∙ ap (λ (r : Result Cursor RelocError). shown one.additions r section) is)
                ∙ (two.makes (with_additions one.additions section) (additions_length one.additions section one.sound long) ∙ shown_append one.additions two.additions two.ends section);
          }

  -- the same by another name
  same_alike : (f g : State → Result State Refused) (cursor : Cursor) → ((s : State) → f s ≡ g s) → Alike sources total g cursor → Alike sources total f cursor
  same_alike f g cursor same one = record {
    additions = one.additions;
    ends = one.ends;
    sound = one.sound;
    ready = one.ready;
    makes = λ section long. same (state section cursor) ∙ one.makes section long;
  }

  if_alike : (test : Bool) (f g : State → Result State Refused) → AllAlike f → AllAlike g → AllAlike (λ s. if test then f s else g s)
  if_alike true f g p q = p
  if_alike false f g p q = q

  ok_alike : AllAlike (λ s. Ok s)
  ok_alike cursor ready = stays (λ s. Ok s) cursor (Ok cursor) ready (λ section long. refl)

  err_alike : (e : RelocError) → AllAlike (refused e)
  err_alike e cursor ready = stays (refused e) cursor (Err e) tt (λ section long. refl)

  -- what a source gives is an addend
  allowed_is : (cursor : Cursor) (value : Result ℕ RelocError) (v : ℕ) → allowed cursor value ≡ Ok v → value ≡ Ok v
  allowed_is cursor (Ok value) v is = ap (λ (n : ℕ). let r : Result ℕ RelocError = Ok n in r) (by cursor.over is)
    where
      by : (over : Bool) → (if over then Err Work else Ok value) ≡ Ok v → value ≡ v
      by true h = absurd (cc)
      by false h = cc
  allowed_is cursor (Err e) v is = absurd (cc)

  item : (items : List ℕ) (n v : ℕ) (e : RelocError) → (if nat_lt n (length items) then Ok (slice_index items n) else Err e) ≡ Ok v → IsItem items v
  item items n v e = by (nat_lt n (length items)) refl
    where
      by : (test : Bool) → nat_lt n (length items) ≡ test → (if test then Ok (slice_index items n) else Err e) ≡ Ok v → IsItem items v
      by true q h =
          let same : v ≡ slice_index items n = cc in
          (n, grind (arith, nat_tests, q), same)
      by false q h = absurd (cc)

  value_addend : (source : Source) (cursor : Cursor) (v : ℕ) → IsReady sources cursor → value_of sources source cursor ≡ Ok v → IsAddend sources v
  value_addend FromC cursor v ready is = let same : cursor.c ≡ v = cc in subst (IsAddend sources) same ready.c
  value_addend FromD cursor v ready is = let same : cursor.d ≡ v = cc in subst (IsAddend sources) same ready.d
  value_addend FromImport cursor v ready is = inr (inr (item sources.imports cursor.index v (ImportIndex cursor.index) is))
  value_addend (FromSection n) cursor v ready is = inr (inl (item sources.bases n v (SectionIndex n) is))

  passed_ready : (source : Source) (cursor : Cursor) → IsReady sources cursor → IsReady sources (passed source cursor)
  passed_ready FromC cursor ready = record { c = ready.c; d = ready.d }
  passed_ready FromD cursor ready = record { c = ready.c; d = ready.d }
  passed_ready FromImport cursor ready = record { c = ready.c; d = ready.d }
  passed_ready (FromSection n) cursor ready = record { c = ready.c; d = ready.d }

  add_alike : (source : Source) → AllAlike (does sources (Add source))
  add_alike source cursor ready = by (nat_lt total (cursor.position + 4)) refl
    where
      known : (test : Bool) (value : Result ℕ RelocError) → nat_lt total (cursor.position + 4) ≡ test → allowed cursor (value_of sources source cursor) ≡ value
          → (section : List ℕ) → length section ≡ total → does sources (Add source) (state section cursor) ≡ tested source test value (state section cursor)
      known test value q is section long =
          ap (λ (n : ℕ). tested source (nat_lt n (cursor.position + 4)) (allowed cursor (value_of sources source cursor)) (state section cursor)) long
          ∙ (ap (λ (t : Bool). tested source t (allowed cursor (value_of sources source cursor)) (state section cursor)) q
          ∙ ap (λ (v : Result ℕ RelocError). tested source test v (state section cursor)) is)

      within : nat_lt total (cursor.position + 4) ≡ false → cursor.position + 4 ≤ total
      within q = grind (arith, nat_tests, q)

      inside : nat_lt total (cursor.position + 4) ≡ false → (value : Result ℕ RelocError) → allowed cursor (value_of sources source cursor) ≡ value → Alike sources total (does sources (Add source)) cursor
      inside q (Ok v) is =
          let a : Addition = record { position = cursor.position; value = v } in
          let fits : IsAddition sources total a = record { within = within q; addend = value_addend source cursor v ready (allowed_is cursor (value_of sources source cursor) v is) } in
          record {
            additions = a ∷ [];
            ends = Ok (passed source cursor);
            sound = All-cons (IsAddition sources total) a [] fits (All-nil (IsAddition sources total));
            ready = passed_ready source cursor ready;
            makes = known false (Ok v) q is;
          }
      inside q (Err e) is = stays (does sources (Add source)) cursor (Err e) tt (known false (Err e) q is)

      by : (test : Bool) → nat_lt total (cursor.position + 4) ≡ test → Alike sources total (does sources (Add source)) cursor
      by true q =
          stays (does sources (Add source)) cursor (Err (OutsideSection (cursor.position % 2 ^ 32))) tt
          (known true (allowed cursor (value_of sources source cursor)) q refl)
      by false q = inside q (allowed cursor (value_of sources source cursor)) refl

  base_addend : (cursor : Cursor) (n v : ℕ) → allowed cursor (base_of sources n) ≡ Ok v → IsAddend sources v
  base_addend cursor n v is = inr (inl (item sources.bases n v (SectionIndex n) (allowed_is cursor (base_of sources n) v is)))

  set_c_alike : (n : ℕ) → AllAlike (does sources (SetC n))
  set_c_alike n cursor ready = by (allowed cursor (base_of sources n)) refl
    where
      by : (value : Result ℕ RelocError) → allowed cursor (base_of sources n) ≡ value → Alike sources total (does sources (SetC n)) cursor
      by (Ok v) is =
          stays (does sources (SetC n)) cursor (Ok (record cursor { c = v })) (record { c = base_addend cursor n v is; d = ready.d })
          (λ section long. ap (λ (r : Result ℕ RelocError). given r (state section cursor) (λ base. state section (record cursor { c = base }))) is)
      by (Err e) is =
          stays (does sources (SetC n)) cursor (Err e) tt
          (λ section long. ap (λ (r : Result ℕ RelocError). given r (state section cursor) (λ base. state section (record cursor { c = base }))) is)

  set_d_alike : (n : ℕ) → AllAlike (does sources (SetD n))
  set_d_alike n cursor ready = by (allowed cursor (base_of sources n)) refl
    where
      by : (value : Result ℕ RelocError) → allowed cursor (base_of sources n) ≡ value → Alike sources total (does sources (SetD n)) cursor
      by (Ok v) is =
          stays (does sources (SetD n)) cursor (Ok (record cursor { d = v })) (record { c = ready.c; d = base_addend cursor n v is })
          (λ section long. ap (λ (r : Result ℕ RelocError). given r (state section cursor) (λ base. state section (record cursor { d = base }))) is)
      by (Err e) is =
          stays (does sources (SetD n)) cursor (Err e) tt
          (λ section long. ap (λ (r : Result ℕ RelocError). given r (state section cursor) (λ base. state section (record cursor { d = base }))) is)

  does_alike : (o : Operation) → AllAlike (does sources o)
  does_alike (Add source) cursor ready = add_alike source cursor ready
  does_alike (Skip n) cursor ready =
      stays (does sources (Skip n)) cursor (Ok (moved n cursor)) (record { c = ready.c; d = ready.d }) (λ section long. refl)
  does_alike (Place n) cursor ready =
      stays (does sources (Place n)) cursor (Ok (record cursor { position = n })) (record { c = ready.c; d = ready.d }) (λ section long. refl)
  does_alike (Import n) cursor ready =
      stays (does sources (Import n)) cursor (Ok (record cursor { index = n })) (record { c = ready.c; d = ready.d }) (λ section long. refl)
  does_alike (SetC n) cursor ready = set_c_alike n cursor ready
  does_alike (SetD n) cursor ready = set_d_alike n cursor ready

  runs_alike : (os : List Operation) → AllAlike (runs sources os)
  runs_alike [] cursor ready = same_alike (runs sources []) (λ s. Ok s) cursor (λ s. refl) (ok_alike cursor ready)
  runs_alike (o ∷ os) cursor ready = same_alike (runs sources (o ∷ os)) (λ s. does sources o s >>= runs sources os) cursor (λ s. refl) (then_alike (does sources o) (runs sources os) cursor (does_alike o cursor ready) (runs_alike os))

  finished_alike : AllAlike finished
  finished_alike cursor ready = by cursor.over refl
    where
      by : (over : Bool) → cursor.over ≡ over → Alike sources total finished cursor
      by true q = stays finished cursor (Err Work) tt (λ section long. ap (λ (o : Bool). if o then refused Work (state section cursor) else Ok (state section cursor)) q)
      by false q = stays finished cursor (Ok cursor) ready (λ section long. ap (λ (o : Bool). if o then refused Work (state section cursor) else Ok (state section cursor)) q)

  -- the same once an instruction is counted
  counted_alike : (f : State → Result State Refused) → AllAlike f → AllAlike (λ s. f (counted s))
  counted_alike f alike cursor ready =
      let one : Alike sources total f (begun cursor) = alike (begun cursor) (record { c = ready.c; d = ready.d }) in
      record { additions = one.additions; ends = one.ends; sound = one.sound; ready = one.ready; makes = one.makes }

  executed_alike : (i : Instruction) → AllAlike (executed sources i)
  executed_alike i cursor ready =
      same_alike (executed sources i) (λ s. runs sources (operations i) (counted s) >>= finished) cursor (λ s. refl)
      (then_alike (λ s. runs sources (operations i) (counted s)) finished cursor (counted_alike (runs sources (operations i)) (runs_alike (operations i)) cursor ready) finished_alike)

  read_alike : (again : ℕ → ℕ → State → Result State Refused) (reading : Result Reading RelocError) → ((count further : ℕ) → AllAlike (again count further)) → AllAlike (read_and_run sources again reading)
  read_alike again (Ok (Whole i)) more cursor ready = same_alike (read_and_run sources again (Ok (Whole i))) (executed sources i) cursor (λ s. refl) (executed_alike i cursor ready)
  read_alike again (Ok (Again count further)) more cursor ready =
      same_alike (read_and_run sources again (Ok (Again count further))) (again count further) cursor (λ s. refl) (more count further cursor ready)
  read_alike again (Err e) more cursor ready = same_alike (read_and_run sources again (Err e)) (refused e) cursor (λ s. refl) (err_alike e cursor ready)

  each_alike : (n : ℕ) (words : List ℕ) (step : ℕ → State → Result State Refused) (place : ℕ) → ((at : ℕ) → AllAlike (step at)) → AllAlike (each_by n words step place)
  each_alike zero words step place more cursor ready = same_alike (each_by zero words step place) (λ s. Ok s) cursor (λ s. refl) (ok_alike cursor ready)
  each_alike (suc n) words step place more cursor ready =
      same_alike (each_by (suc n) words step place)
      (λ s. if nat_le (place + 2) (length words) then (step place s >>= each_by n words step (place + width_at words place)) else Ok s) cursor (λ s. refl)
      (if_alike (nat_le (place + 2) (length words)) (λ s. step place s >>= each_by n words step (place + width_at words place)) (λ s. Ok s)
      (λ next is. then_alike (step place) (each_by n words step (place + width_at words place)) next (more place next is) (each_alike n words step (place + width_at words place) more))
      ok_alike cursor ready)

  span_alike : (span : List ℕ) → AllAlike (run_span sources span)
  span_alike span cursor ready =
      same_alike (run_span sources span) (each_by (length span - 0) span (run_in_span sources span) 0) cursor (λ s. refl)
      (each_alike (length span - 0) span (run_in_span sources span) 0
      (λ at next is. same_alike (run_in_span sources span at) (read_and_run sources (λ count further s. Ok s) (reading_at span at)) next (λ s. refl)
      (read_alike (λ count further s. Ok s) (reading_at span at) (λ count further. ok_alike) next is)) cursor ready)

  times_alike : (span : List ℕ) (n : ℕ) → AllAlike (run_times sources span n)
  times_alike span zero cursor ready = same_alike (run_times sources span zero) (λ s. Ok s) cursor (λ s. refl) (ok_alike cursor ready)
  times_alike span (suc n) cursor ready =
      same_alike (run_times sources span (suc n)) (λ s. run_span sources span s >>= run_times sources span n) cursor (λ s. refl)
      (then_alike (run_span sources span) (run_times sources span n) cursor (span_alike span cursor ready) (times_alike span n))

  repeated_alike : (words : List ℕ) (place count further : ℕ) → AllAlike (repeated sources words place count further)
  repeated_alike words place count further cursor ready =
      same_alike (repeated sources words place count further)
      (λ s. if can_repeat words place count then (finished (counted s) >>= run_times sources (span_at words place count) further) else refused (RepeatFront place) s) cursor (λ s. refl)
      (if_alike (can_repeat words place count) (λ s. finished (counted s) >>= run_times sources (span_at words place count) further) (refused (RepeatFront place))
      (λ next is. then_alike (λ s. finished (counted s)) (run_times sources (span_at words place count) further) next (counted_alike finished finished_alike next is) (times_alike (span_at words place count) further))
      (err_alike (RepeatFront place)) cursor ready)

  words_alike : (words : List ℕ) → AllAlike (run_words sources words)
  words_alike words cursor ready =
      same_alike (run_words sources words) (each_by (length words - 0) words (run_at sources words) 0) cursor (λ s. refl)
      (each_alike (length words - 0) words (run_at sources words) 0
      (λ at next is. same_alike (run_at sources words at) (read_and_run sources (repeated sources words at) (reading_at words at)) next (λ s. refl)
      (read_alike (repeated sources words at) (reading_at words at) (λ count further. repeated_alike words at count further) next is)) cursor ready)

abbrev refusal_in : Result Cursor RelocError → Option RelocError
refusal_in (Ok cursor) = None
refusal_in (Err e) = Some e

end_shown : (additions : List Addition) (ends : Result Cursor RelocError) (section : List ℕ) → end_of (shown additions ends section) ≡ record { section = with_additions additions section; refusal = refusal_in ends }
end_shown additions (Ok cursor) section = refl
end_shown additions (Err e) section = refl

-- sections C and D are at first sections 0 and 1, or 0
first_addend : (sources : Sources) (n : ℕ) → IsAddend sources (slice_index sources.bases n)
first_addend sources n = by (nat_lt n (length sources.bases)) refl
  where
    beyond : (xs : List ℕ) (k : ℕ) → length xs ≤ k → slice_index xs k ≡ 0
    beyond [] zero past = refl
    beyond [] (suc k) past = refl
    beyond (x ∷ xs) zero past = absurd (omega (arith, past))
    beyond (x ∷ xs) (suc k) past = beyond xs k (omega (arith, past))

    by : (test : Bool) → nat_lt n (length sources.bases) ≡ test → IsAddend sources (slice_index sources.bases n)
    by true q = inr (inl (n, grind (arith, nat_tests, q), refl))
    by false q = inl (beyond sources.bases n (grind (arith, nat_tests, q)))

pub has_plan : HasPlan
has_plan sources words total =
    let one : Alike sources total (run_words sources words) (start sources.bases) =
    words_alike sources total words (start sources.bases) (record { c = first_addend sources 0; d = first_addend sources 1 }) in
    record {
      additions = one.additions;
      refusal = refusal_in one.ends;
      sound = one.sound;
      makes = λ section long. ap end_of (one.makes section long) ∙ end_shown one.additions one.ends section;
    }

pub keeps_size : KeepsSize
keeps_size sources words section =
    let plan : Plan sources words (length section) = has_plan sources words (length section) in
    ap (λ (r : Relocated). length r.section) (plan.makes section refl) ∙ additions_length sources (length section) plan.additions section plan.sound refl
