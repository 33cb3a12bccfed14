-- One more of so many equal steps.
use Rattle.std.proofs.Common.{◌≡◌, ℕ, zero, suc, ◌+◌, ap, ◌∙◌, arith, refl}
use Rattle.std.specs.Fn.{iterate}

pub iterate-more : {A : Type 0} (f : A → A) (n : ℕ) (x : A) → iterate f (n + 1) x ≡ f (iterate f n x)
iterate-more f zero x = refl
iterate-more f (suc n) x =
    let more : suc n + 1 ≡ suc (n + 1) = omega arith in ap (λ k. iterate f k x) more ∙ iterate-more f n (f x)
