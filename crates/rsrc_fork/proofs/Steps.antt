-- Where a step of many is refused, so are they all.
use Rattle.std.proofs.Common.{◌≡◌, subst, refl, ℕ, zero, suc, ◌<◌, Bool, true, false, nat_lt, Result, Ok, Err, arith}
use Rattle.std.proofs.lemmas.Bool.Decides.{nat_tests}
use Rattle.rsrc_fork.specs.declared.error.RsrcError.{RsrcError}
use Rattle.rsrc_fork.specs.Outcome.{each_below}

pub failed_below : {A : Type 0} (step : A → ℕ → Result A RsrcError) (start : A) (n k : ℕ) (made : A) (e : RsrcError)
    → k < n → each_below step start k ≡ Ok made → step made k ≡ Err e → each_below step start n ≡ Err e
failed_below step start zero k made e lt before fails = absurd (omega arith)
failed_below {A} step start (suc n) k made e lt before fails = by (nat_lt k n) refl (λ h. failed_below step start n k made e h before fails)
  where
    by : (b : Bool) → nat_lt k n ≡ b → (k < n → each_below step start n ≡ Err e) → each_below step start (suc n) ≡ Err e
    by true q earlier = rw (earlier (grind (arith, nat_tests)))
    by false q earlier =
        let same : k ≡ n = grind (arith, nat_tests) in
        subst (λ (m : ℕ). each_below step start (suc m) ≡ Err e) same (rw before fails)
