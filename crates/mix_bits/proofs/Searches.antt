-- Searches below a bound: where they end, and what they say of each number.
use Rattle.std.proofs.Common.{◌≡◌, subst, sym, refl, ℕ, zero, suc, ◌<◌, Bool, true, false, nat_lt, Option, Some, None, arith}
use Rattle.std.proofs.lemmas.Bool.Decides.{nat_tests}
use Rattle.mix_bits.specs.SearchOperator.{◌or◌}
use Rattle.mix_bits.specs.Search.{refused, count_below, least}
use Rattle.mix_bits.specs.laws.SearchLaws.{FailsBelow, FirstIsLeast, LeastOfFailing, NoneIsCounted, NoneIsLeast}

-- where the first number that passes is the least
pub least_at : FirstIsLeast
least_at test zero k lt before passes = absurd (omega arith)
least_at test (suc n) k lt before passes = by (nat_lt k n) refl (λ h. least_at test n k h before passes)
  where
    by : (b : Bool) → nat_lt k n ≡ b → (k < n → least test n ≡ Some k) → least test (suc n) ≡ Some k
    by true q earlier = rw (earlier (grind (arith, nat_tests)))
    by false q earlier =
        let same : k ≡ n = grind (arith, nat_tests) in
        subst (λ (m : ℕ). least test (suc m) ≡ Some k) same (rw before (rw passes))

-- no number passes
pub least_none : NoneIsLeast
least_none test zero fails = refl
least_none test (suc n) fails =
    rw (least_none test n (λ k lt. fails k (omega arith))) (rw (fails n (omega arith)) refl)

-- the first number that passes is the least
pub least_first : LeastOfFailing
least_first test n k lt fails passes = least_at test n k lt (least_none test k fails) passes

-- where none is the least, each fails
pub fails_below : FailsBelow
fails_below test zero k none lt = absurd (omega arith)
fails_below test (suc n) k none lt =
    by (least test n) refl (test n) refl none (λ before h. fails_below test n k before h) (nat_lt k n) refl
  where
    by : (o : Option ℕ) → least test n ≡ o → (t : Bool) → test n ≡ t → (o or refused t n) ≡ None
        → (least test n ≡ None → k < n → test k ≡ false) → (b : Bool) → nat_lt k n ≡ b → test k ≡ false
    by (Some i) before t p h earlier b q = absurd (cc)
    by None before true p h earlier b q = absurd (cc)
    by None before false p h earlier true q = earlier before (grind (arith, nat_tests))
    by None before false p h earlier false q =
        let same : k ≡ n = grind (arith, nat_tests) in
        subst (λ (m : ℕ). test m ≡ false) (sym same) p

-- where none passes, none is counted
pub none_counted : NoneIsCounted
none_counted test zero none = refl
none_counted test (suc n) none = by (least test n) refl (test n) refl none (λ before. none_counted test n before)
  where
    by : (o : Option ℕ) → least test n ≡ o → (t : Bool) → test n ≡ t → (o or refused t n) ≡ None
        → (least test n ≡ None → count_below test n ≡ 0) → count_below test (suc n) ≡ 0
    by (Some i) before t p h earlier = absurd (cc)
    by None before true p h earlier = absurd (cc)
    by None before false p h earlier = rw (earlier before, p) refl
