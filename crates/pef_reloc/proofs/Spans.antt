-- A span that can be repeated is filled by instructions of which none is a repeat.
use Rattle.std.proofs.Common.{◌≡◌, refl, ℕ, zero, suc, ◌+◌, ◌-◌, ◌≤◌, nat_le, if◌then◌else◌, Bool, true, false, true≢false, List, length, Result, Ok, Err, arith, sym, subst}
use Rattle.std.proofs.lemmas.Bool.Decides.{nat_tests}
use Rattle.std.specs.Result.{is_ok}
use Rattle.pef_reloc.specs.Rows.{first_of}
use Rattle.mix_bits.specs.Results.{◌>>=◌}
use Rattle.pef_reloc.specs.Program.{each_by, fits_in, is_repeat}
use Rattle.pef_reloc.specs.inner.Program.{fill_span}
use Rattle.pef_reloc.specs.ProgramClauses.{width_at}
use Rattle.mix_bits.specs.Fields.{word_at}
use Rattle.pef_reloc.specs.laws.Laws.{Fills, IsFilledSpan}
use Rattle.pef_reloc.specs.laws.Laws.Fills.{Filled, Next}
use Rattle.pef_reloc.proofs.Each.{some_width}

-- it is no repeat, and ends within the span
fits_parts : (repeat : Bool) (end len : ℕ) → (if repeat then false else nat_le end len) ≡ true → (repeat ≡ false) × (end ≤ len)
fits_parts true end len is = absurd (true≢false (sym is))
fits_parts false end len is = (refl, grind (arith, nat_tests, is))

module _ (span : List ℕ) where
  -- the rest of a span, from a place on
  abbrev rest : ℕ → ℕ → Bool → Result Bool Bool
  rest n place b = each_by n span (fill_span span) place b

  fills : (n place : ℕ) (b : Bool) → length span ≤ place + n → is_ok (rest n place b) ≡ true → Fills span place
  fills zero place b enough is = Filled span place (omega (arith, enough))
  fills (suc n) place b enough is =
      by (λ more h. fills n (place + width_at span place) b more h) (nat_le (place + 2) (length span)) refl (fits_in span place) refl is
    where
      by : (length span ≤ place + width_at span place + n → is_ok (rest n (place + width_at span place) b) ≡ true → Fills span (place + width_at span place))
          → (test : Bool) → nat_le (place + 2) (length span) ≡ test → (fits : Bool) → fits_in span place ≡ fits
          → is_ok (if test then ((if fits then Ok b else Err b) >>= each_by n span (fill_span span) (place + width_at span place)) else Ok b) ≡ true → Fills span place
      by later true q true p h =
          let parts = fits_parts (is_repeat (first_of (word_at span place))) (place + width_at span place) (length span) p in
          let some : 1 ≤ width_at span place = some_width (first_of (word_at span place)) in
          Next span place (grind (arith, nat_tests, q)) parts.0 parts.1 (later (omega (arith, some, enough)) h)
      by later true q false p h = absurd (true≢false (sym h))
      by later false q fits p h = Filled span place (grind (arith, nat_tests, q))

-- instructions that fill a span are found
found : (n : ℕ) (span : List ℕ) (place : ℕ) (b : Bool) → Fills span place → length span ≤ place + n → is_ok (each_by n span (fill_span span) place b) ≡ true
found zero span place b filled enough = refl
found (suc n) _ _ b (Filled span place past) enough =
    let test : nat_le (place + 2) (length span) ≡ false = grind (arith, nat_tests, past) in
    subst (λ (t : Bool). is_ok (if t then (fill_span span place b >>= each_by n span (fill_span span) (place + width_at span place)) else Ok b) ≡ true) (sym test) refl
found (suc n) _ _ b (Next span place within plain fits more) enough =
    let test : nat_le (place + 2) (length span) ≡ true = grind (arith, nat_tests, within) in
    let ends : nat_le (place + width_at span place) (length span) ≡ true = grind (arith, nat_tests, fits) in
    let some : 1 ≤ width_at span place = some_width (first_of (word_at span place)) in
    let later : is_ok (each_by n span (fill_span span) (place + width_at span place) b) ≡ true = found n span (place + width_at span place) b more (omega (arith, some, enough)) in
    subst (λ (t : Bool). is_ok (if t then (fill_span span place b >>= each_by n span (fill_span span) (place + width_at span place)) else Ok b) ≡ true) (sym test)
    (subst (λ (r : Bool). is_ok ((if (if r then false else nat_le (place + width_at span place) (length span)) then Ok b else Err b) >>= each_by n span (fill_span span) (place + width_at span place)) ≡ true) (sym plain)
    (subst (λ (t : Bool). is_ok ((if t then Ok b else Err b) >>= each_by n span (fill_span span) (place + width_at span place)) ≡ true) (sym ends) later))

pub is_filled_span : IsFilledSpan
is_filled_span span = (
  λ is. fills span (length span - 0) 0 true (omega arith) is,
  λ filled. found (length span - 0) span 0 true filled (omega arith),
)
