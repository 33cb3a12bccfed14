-- Instructions one after the other.
use Rattle.std.proofs.Common.{◌≡◌, ℕ, zero, suc, ◌+◌, ◌-◌, ◌<◌, ◌≤◌, nat_le, if◌then◌else◌, Bool, true, false, List, length, Result, Ok, Err, refl, arith, ap, sym, ◌∙◌}
use Rattle.std.proofs.lemmas.Bool.Decides.{nat_tests}
use Rattle.pef_reloc.specs.declared.instruction.First.{First}
use Rattle.pef_reloc.specs.declared.instruction.First.TheVariants.{One, Two, Repeat, NoRow}
use Rattle.pef_reloc.specs.Rows.{first_of}
use Rattle.mix_bits.specs.Results.{◌>>=◌}
use Rattle.pef_reloc.specs.Program.{width, each, each_by}
use Rattle.pef_reloc.specs.ProgramClauses.{width_at}
use Rattle.mix_bits.specs.Fields.{word_at}

pub some_width : (f : First) → 1 ≤ width f
some_width (One i) = omega arith
some_width (Two large high) = omega arith
some_width (Repeat count further) = omega arith
some_width NoRow = omega arith

then_same : {S E : Type 0} (r : Result S E) (f g : S → Result S E) → ((s : S) → f s ≡ g s) → (r >>= f) ≡ (r >>= g)
then_same (Ok s) f g same = same s
then_same (Err e) f g same = refl

if_same : {X : Type 0} (test : Bool) (x y z : X) → x ≡ y → (if test then x else z) ≡ (if test then y else z)
if_same test x y z same = ap (λ w. if test then w else z) same

-- behind the last word there is nothing to do
past_end : {S E : Type 0} (n : ℕ) (words : List ℕ) (step : ℕ → S → Result S E) (place : ℕ) (s : S) → length words < place + 2 → each_by n words step place s ≡ Ok s
past_end zero words step place s past = refl
past_end (suc n) words step place s past =
    let test : nat_le (place + 2) (length words) ≡ false = grind (arith, nat_tests) in
    ap (λ t. if t then (step place s >>= each_by n words step (place + width_at words place)) else Ok s) test

-- as many instructions as bytes are enough
enough : {S E : Type 0} (n m : ℕ) (words : List ℕ) (step : ℕ → S → Result S E) (place : ℕ) (s : S) → length words ≤ place + n → length words ≤ place + m → each_by n words step place s ≡ each_by m words step place s
enough zero m words step place s p q = let past : length words < place + 2 = omega arith in sym (past_end m words step place s past)
enough (suc n) zero words step place s p q = let past : length words < place + 2 = omega arith in past_end (suc n) words step place s past
enough (suc n) (suc m) words step place s p q =
    let some = some_width (first_of (word_at words place)) in
    if_same (nat_le (place + 2) (length words)) _ _ (Ok s)
    (then_same (step place s) _ _ (λ t. enough n m words step (place + width_at words place) t (omega arith) (omega arith)))

first : {S E : Type 0} (words : List ℕ) (step : ℕ → S → Result S E) (place : ℕ) (s : S) → place + 2 ≤ length words → each words step place s ≡ (step place s >>= each words step (place + width_at words place))
first words step place s within =
    let some = some_width (first_of (word_at words place)) in
    let one : length words - place ≡ suc (length words - place - 1) = omega arith in
    let test : nat_le (place + 2) (length words) ≡ true = grind (arith, nat_tests) in
    ap (λ n. each_by n words step place s) one
    ∙ ap (λ t. if t then (step place s >>= each_by (length words - place - 1) words step (place + width_at words place)) else Ok s) test
    ∙ then_same (step place s) _ _ (λ t. enough (length words - place - 1) (length words - (place + width_at words place)) words step (place + width_at words place) t (omega arith) (omega arith))

-- an instruction that is done, and those behind it
pub each_next : {S E : Type 0} (words : List ℕ) (step : ℕ → S → Result S E) (place : ℕ) (s t : S) → place + 2 ≤ length words → Ok t ≡ step place s → each words step (place + width_at words place) t ≡ each words step place s
each_next words step place s t within done =
    ap (λ r. r >>= each words step (place + width_at words place)) done ∙ sym (first words step place s within)

-- a refusal ends them all
pub each_err : {S E : Type 0} (words : List ℕ) (step : ℕ → S → Result S E) (place : ℕ) (s : S) (e : E) → place + 2 ≤ length words → Err e ≡ step place s → Err e ≡ each words step place s
each_err words step place s e within done =
    ap (λ r. r >>= each words step (place + width_at words place)) done ∙ sym (first words step place s within)

pub each_end : {S E : Type 0} (words : List ℕ) (step : ℕ → S → Result S E) (place : ℕ) (s : S) → length words < place + 2 → each words step place s ≡ Ok s
each_end words step place s past = past_end (length words - place) words step place s past
