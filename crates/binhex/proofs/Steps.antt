-- Where a packed byte of many is refused, so are they all.
use Rattle.std.proofs.Common.{◌≡◌, subst, refl, ℕ, zero, suc, ◌<◌, Bool, true, false, nat_lt, List, Ok, Err, arith}
use Rattle.std.specs.Prelude.{slice_index}
use Rattle.std.proofs.lemmas.Bool.Decides.{nat_tests}
use Rattle.binhex.specs.declared.error.BinHexError.{BinHexError}
use Rattle.binhex.specs.Runs.{Expanding, taken, taken_below}

pub failed_below : (packed : List ℕ) (n k : ℕ) (so : Expanding) (e : BinHexError)
    → k < n → taken_below packed k ≡ Ok so → taken so (slice_index packed k) ≡ Err e → taken_below packed n ≡ Err e
failed_below packed zero k so e lt before fails = absurd (omega arith)
failed_below packed (suc n) k so e lt before fails = by (nat_lt k n) refl (λ h. failed_below packed n k so e h before fails)
  where
    by : (b : Bool) → nat_lt k n ≡ b → (k < n → taken_below packed n ≡ Err e) → taken_below packed (suc n) ≡ Err e
    by true q earlier = rw (earlier (grind (arith, nat_tests)))
    by false q earlier =
        let same : k ≡ n = grind (arith, nat_tests) in
        subst (λ (m : ℕ). taken_below packed (suc m) ≡ Err e) same (rw before fails)
