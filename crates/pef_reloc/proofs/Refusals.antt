-- Whether relocations are refused, and why, depends on sizes alone: not on where sections and imports stand, nor on the section's bytes.
use Rattle.std.proofs.Common.{◌≡◌, ◌∙◌, ◌==◌, refl, sym, ap, ℕ, zero, suc, ◌+◌, ◌-◌, ◌%◌, ◌^◌, ◌≤◌, nat_lt, nat_le, if◌then◌else◌, Bool, true, false, List, [], ◌∷◌, length, slice_index, Some, Result, Ok, Err, arith}
use Rattle.std.proofs.lemmas.Bool.Decides.{nat_tests}
use Rattle.byteorder.specs.Endian.{big_bytes}
use Rattle.big_memory.specs.Numbers.{long_at}
use Rattle.big_memory.proofs.Lists.{length-put}
use Rattle.pef_reloc.specs.declared.cursor.Cursor.{Cursor}
use Rattle.pef_reloc.specs.declared.error.RelocError.{RelocError}
use Rattle.pef_reloc.specs.declared.error.RelocError.TheVariants.{ImportIndex, OutsideSection, RepeatFront, SectionIndex, Work}
use Rattle.pef_reloc.specs.declared.section.Source.{Source}
use Rattle.pef_reloc.specs.declared.section.Source.TheVariants.{FromC, FromD, FromImport, FromSection}
use Rattle.pef_reloc.specs.declared.instruction.Instruction.{Instruction}
use Rattle.pef_reloc.specs.declared.instruction.Reading.{Reading}
use Rattle.pef_reloc.specs.declared.instruction.Reading.TheVariants.{Whole, Again}
use Rattle.mix_bits.specs.Results.{◌>>=◌}
use Rattle.pef_reloc.specs.Additions.{Operation, Add, Skip, Place, Import, SetC, SetD, Sources, State, Refused, refused, added, allowed, counted, does, executed, finished, given, operations, passed, runs, value_of}
use Rattle.pef_reloc.specs.AdditionsClauses.{with_long}
use Rattle.pef_reloc.specs.inner.Additions.{base_of}
use Rattle.pef_reloc.specs.Program.{each_by, end_of, read_and_run, reading_at, repeated, run_span, run_times, start}
use Rattle.pef_reloc.specs.inner.Program.{run_at, run_in_span, run_words}
use Rattle.pef_reloc.specs.ProgramClauses.{can_repeat, span_at, width_at}
use Rattle.pef_reloc.specs.laws.Laws.{HasSameRefusal}

-- two states that differ in addresses and bytes alone
record Near (s t : State) : Type 0 where
  position : s.cursor.position ≡ t.cursor.position
  index : s.cursor.index ≡ t.cursor.index
  left : s.cursor.left ≡ t.cursor.left
  over : s.cursor.over ≡ t.cursor.over
  long : length s.section ≡ length t.section

-- both go on so, or both are refused alike
abbrev AreNear : Result State Refused → Result State Refused → Type 0
AreNear (Ok s) (Ok t) = Near s t
AreNear (Ok s) (Err f) = ⊥
AreNear (Err e) (Ok t) = ⊥
AreNear (Err e) (Err f) = e.error ≡ f.error

-- both are there, or both are missing alike
abbrev AreAlike : Result ℕ RelocError → Result ℕ RelocError → Type 0
AreAlike (Ok v) (Ok w) = Unit {0}
AreAlike (Ok v) (Err f) = ⊥
AreAlike (Err e) (Ok w) = ⊥
AreAlike (Err e) (Err f) = e ≡ f

if_near : (b c : Bool) (w x y z : Result State Refused) → b ≡ c → (b ≡ true → c ≡ true → AreNear w y) → (b ≡ false → c ≡ false → AreNear x z)
    → AreNear (if b then w else x) (if c then y else z)
if_near true true w x y z same one other = one refl refl
if_near false false w x y z same one other = other refl refl
if_near true false w x y z same one other = absurd (cc)
if_near false true w x y z same one other = absurd (cc)

then_near : (a b : Result State Refused) (f g : State → Result State Refused) → AreNear a b → ((s t : State) → Near s t → AreNear (f s) (g t)) → AreNear (a >>= f) (b >>= g)
then_near (Ok s) (Ok t) f g near more = more s t near
then_near (Ok s) (Err e) f g near more = absurd near
then_near (Err e) (Ok t) f g near more = absurd near
then_near (Err e) (Err h) f g near more = near

given_near : (v w : Result ℕ RelocError) (s t : State) (f g : ℕ → State) → AreAlike v w → ((x y : ℕ) → Near (f x) (g y)) → AreNear (given v s f) (given w t g)
given_near (Ok x) (Ok y) s t f g alike more = more x y
given_near (Ok x) (Err e) s t f g alike more = absurd alike
given_near (Err e) (Ok y) s t f g alike more = absurd alike
given_near (Err e) (Err h) s t f g alike more = alike

allowed_alike : (c d : Cursor) (v w : Result ℕ RelocError) → c.over ≡ d.over → AreAlike v w → AreAlike (allowed c v) (allowed d w)
allowed_alike c d (Ok x) (Ok y) over alike = by c.over d.over over
  where
    by : (b e : Bool) → b ≡ e → AreAlike (if b then Err Work else Ok x) (if e then Err Work else Ok y)
    by true true same = refl
    by false false same = tt
    by true false same = absurd (cc)
    by false true same = absurd (cc)
allowed_alike c d (Ok x) (Err e) over alike = absurd alike
allowed_alike c d (Err e) (Ok y) over alike = absurd alike
allowed_alike c d (Err e) (Err h) over alike = alike

item_alike : (n k : ℕ) (xs ys : List ℕ) (e h : RelocError) → n ≡ k → length xs ≡ length ys → e ≡ h
    → AreAlike (if nat_lt n (length xs) then Ok (slice_index xs n) else Err e) (if nat_lt k (length ys) then Ok (slice_index ys k) else Err h)
item_alike n k xs ys e h same long alike = by (nat_lt n (length xs)) (nat_lt k (length ys)) (ap (λ m. nat_lt m (length xs)) same ∙ ap (nat_lt k) long)
  where
    by : (b c : Bool) → b ≡ c → AreAlike (if b then Ok (slice_index xs n) else Err e) (if c then Ok (slice_index ys k) else Err h)
    by true true q = tt
    by false false q = alike
    by true false q = absurd (cc)
    by false true q = absurd (cc)

long_length : (position value : ℕ) (section : List ℕ) → position + 4 ≤ length section → length (with_long position value section) ≡ length section
long_length position value section within = length-put position (big_bytes 4 ((long_at position section + value) % 2 ^ 32)) section within

module _ (one other : Sources) (bases : length one.bases ≡ length other.bases) (imports : length one.imports ≡ length other.imports) where
  abbrev AllNear : (State → Result State Refused) → (State → Result State Refused) → Type 0
  AllNear f g = (s t : State) → Near s t → AreNear (f s) (g t)

  base_alike : (n : ℕ) → AreAlike (base_of one n) (base_of other n)
  base_alike n = item_alike n n one.bases other.bases (SectionIndex n) (SectionIndex n) refl bases refl

  value_alike : (source : Source) (c d : Cursor) → c.index ≡ d.index → AreAlike (value_of one source c) (value_of other source d)
  value_alike FromC c d index = tt
  value_alike FromD c d index = tt
  value_alike FromImport c d index = item_alike c.index d.index one.imports other.imports (ImportIndex c.index) (ImportIndex d.index) index imports (ap ImportIndex index)
  value_alike (FromSection n) c d index = base_alike n

  passed_near : (source : Source) (c d : Cursor) (xs ys : List ℕ) → Near (record { section = xs; cursor = c }) (record { section = ys; cursor = d })
      → Near (record { section = xs; cursor = passed source c }) (record { section = ys; cursor = passed source d })
  passed_near FromC c d xs ys near = record { position = ap (λ n. n + 4) near.position; index = near.index; left = near.left; over = near.over; long = near.long }
  passed_near FromD c d xs ys near = record { position = ap (λ n. n + 4) near.position; index = near.index; left = near.left; over = near.over; long = near.long }
  passed_near FromImport c d xs ys near =
      record { position = ap (λ n. n + 4) near.position; index = ap (λ n. n + 1) near.index; left = near.left; over = near.over; long = near.long }
  passed_near (FromSection n) c d xs ys near = record { position = ap (λ n. n + 4) near.position; index = near.index; left = near.left; over = near.over; long = near.long }

  add_near : (source : Source) → AllNear (does one (Add source)) (does other (Add source))
  add_near source s t near =
      if_near (nat_lt (length s.section) (s.cursor.position + 4)) (nat_lt (length t.section) (t.cursor.position + 4))
      (refused (OutsideSection (s.cursor.position % 2 ^ 32)) s) (given (allowed s.cursor (value_of one source s.cursor)) s (added source s))
      (refused (OutsideSection (t.cursor.position % 2 ^ 32)) t) (given (allowed t.cursor (value_of other source t.cursor)) t (added source t))
      (ap (λ n. nat_lt n (s.cursor.position + 4)) near.long ∙ ap (λ n. nat_lt (length t.section) (n + 4)) near.position)
      (λ p q. ap (λ n. OutsideSection (n % 2 ^ 32)) near.position)
      (λ p q.
      given_near (allowed s.cursor (value_of one source s.cursor)) (allowed t.cursor (value_of other source t.cursor)) s t (added source s) (added source t)
      (allowed_alike s.cursor t.cursor (value_of one source s.cursor) (value_of other source t.cursor) near.over (value_alike source s.cursor t.cursor near.index))
      (λ x y.
      let before : s.cursor.position + 4 ≤ length s.section = grind (arith, nat_tests, p) in
      let after : t.cursor.position + 4 ≤ length t.section = grind (arith, nat_tests, q) in
      let long : length (with_long s.cursor.position x s.section) ≡ length (with_long t.cursor.position y t.section) =
      long_length s.cursor.position x s.section before ∙ (near.long ∙ sym (long_length t.cursor.position y t.section after)) in
      passed_near source s.cursor t.cursor (with_long s.cursor.position x s.section) (with_long t.cursor.position y t.section)
      (record { position = near.position; index = near.index; left = near.left; over = near.over; long = long })))

  does_near : (o : Operation) → AllNear (does one o) (does other o)
  does_near (Add source) s t near = add_near source s t near
  does_near (Skip n) s t near = record { position = ap (λ k. k + n) near.position; index = near.index; left = near.left; over = near.over; long = near.long }
  does_near (Place n) s t near = record { position = refl; index = near.index; left = near.left; over = near.over; long = near.long }
  does_near (Import n) s t near = record { position = near.position; index = refl; left = near.left; over = near.over; long = near.long }
  does_near (SetC n) s t near =
      given_near (allowed s.cursor (base_of one n)) (allowed t.cursor (base_of other n)) s t
      (λ base. record s { cursor = record s.cursor { c = base } }) (λ base. record t { cursor = record t.cursor { c = base } })
      (allowed_alike s.cursor t.cursor (base_of one n) (base_of other n) near.over (base_alike n))
      (λ x y. record { position = near.position; index = near.index; left = near.left; over = near.over; long = near.long })
  does_near (SetD n) s t near =
      given_near (allowed s.cursor (base_of one n)) (allowed t.cursor (base_of other n)) s t
      (λ base. record s { cursor = record s.cursor { d = base } }) (λ base. record t { cursor = record t.cursor { d = base } })
      (allowed_alike s.cursor t.cursor (base_of one n) (base_of other n) near.over (base_alike n))
      (λ x y. record { position = near.position; index = near.index; left = near.left; over = near.over; long = near.long })

  runs_near : (os : List Operation) → AllNear (runs one os) (runs other os)
  runs_near [] s t near = near
  runs_near (o ∷ os) s t near = then_near (does one o s) (does other o t) (runs one os) (runs other os) (does_near o s t near) (runs_near os)

  counted_near : (s t : State) → Near s t → Near (counted s) (counted t)
  counted_near s t near =
      record { position = near.position; index = near.index; left = ap (λ n. n - 1) near.left; over = ap (λ n. n == 0) near.left; long = near.long }

  finished_near : AllNear finished finished
  finished_near s t near = if_near s.cursor.over t.cursor.over (refused Work s) (Ok s) (refused Work t) (Ok t) near.over (λ p q. refl) (λ p q. near)

  executed_near : (i : Instruction) → AllNear (executed one i) (executed other i)
  executed_near i s t near =
      then_near (runs one (operations i) (counted s)) (runs other (operations i) (counted t)) finished finished
      (runs_near (operations i) (counted s) (counted t) (counted_near s t near)) finished_near

  read_near : (again later : ℕ → ℕ → State → Result State Refused) (reading : Result Reading RelocError) → ((count further : ℕ) → AllNear (again count further) (later count further))
      → AllNear (read_and_run one again reading) (read_and_run other later reading)
  read_near again later (Ok (Whole i)) more s t near = executed_near i s t near
  read_near again later (Ok (Again count further)) more s t near = more count further s t near
  read_near again later (Err e) more s t near = refl

  each_near : (n : ℕ) (words : List ℕ) (f g : ℕ → State → Result State Refused) (place : ℕ) → ((at : ℕ) → AllNear (f at) (g at)) → AllNear (each_by n words f place) (each_by n words g place)
  each_near zero words f g place more s t near = near
  each_near (suc n) words f g place more s t near =
      if_near (nat_le (place + 2) (length words)) (nat_le (place + 2) (length words))
      (f place s >>= each_by n words f (place + width_at words place)) (Ok s)
      (g place t >>= each_by n words g (place + width_at words place)) (Ok t) refl
      (λ p q.
      then_near (f place s) (g place t) (each_by n words f (place + width_at words place)) (each_by n words g (place + width_at words place))
      (more place s t near) (each_near n words f g (place + width_at words place) more))
      (λ p q. near)

  span_near : (span : List ℕ) → AllNear (run_span one span) (run_span other span)
  span_near span s t near =
      each_near (length span - 0) span (run_in_span one span) (run_in_span other span) 0
      (λ at. read_near (λ count further u. Ok u) (λ count further u. Ok u) (reading_at span at) (λ count further u v same. same)) s t near

  times_near : (span : List ℕ) (n : ℕ) → AllNear (run_times one span n) (run_times other span n)
  times_near span zero s t near = near
  times_near span (suc n) s t near =
      then_near (run_span one span s) (run_span other span t) (run_times one span n) (run_times other span n) (span_near span s t near) (times_near span n)

  repeated_near : (words : List ℕ) (place count further : ℕ) → AllNear (repeated one words place count further) (repeated other words place count further)
  repeated_near words place count further s t near =
      if_near (can_repeat words place count) (can_repeat words place count)
      (finished (counted s) >>= run_times one (span_at words place count) further) (refused (RepeatFront place) s)
      (finished (counted t) >>= run_times other (span_at words place count) further) (refused (RepeatFront place) t) refl
      (λ p q.
      then_near (finished (counted s)) (finished (counted t)) (run_times one (span_at words place count) further) (run_times other (span_at words place count) further)
      (finished_near (counted s) (counted t) (counted_near s t near)) (times_near (span_at words place count) further))
      (λ p q. refl)

  words_near : (words : List ℕ) → AllNear (run_words one words) (run_words other words)
  words_near words s t near =
      each_near (length words - 0) words (run_at one words) (run_at other words) 0
      (λ at. read_near (repeated one words at) (repeated other words at) (reading_at words at) (repeated_near words at)) s t near

end_near : (a b : Result State Refused) → AreNear a b → (end_of a).refusal ≡ (end_of b).refusal
end_near (Ok s) (Ok t) near = refl
end_near (Ok s) (Err f) near = absurd near
end_near (Err e) (Ok t) near = absurd near
end_near (Err e) (Err f) near = ap (λ (error : RelocError). Some error) near

pub has_same_refusal : HasSameRefusal
has_same_refusal one other words section later bases imports long =
    let near : Near (record { section = section; cursor = start one.bases }) (record { section = later; cursor = start other.bases }) =
    record { position = refl; index = refl; left = refl; over = refl; long = long } in
    end_near (run_words one words (record { section = section; cursor = start one.bases })) (run_words other words (record { section = later; cursor = start other.bases }))
    (words_near one other bases imports words (record { section = section; cursor = start one.bases }) (record { section = later; cursor = start other.bases }) near)
