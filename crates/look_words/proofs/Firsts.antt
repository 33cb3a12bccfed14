-- The first number that passes a test, as a loop finds it.
use Rattle.std.proofs.Common.{◌≡◌, refl, sym, subst, ℕ, suc, ◌+◌, ◌<◌, Bool, true, false, Some, None, arith}
use Rattle.mix_bits.specs.Search.{least}
use Rattle.mix_bits.proofs.Searches.{least_at}

pub first_at : (test : ℕ → Bool) (n k : ℕ) (b : Bool) → k < n → least test k ≡ None → b ≡ test k → b ≡ true → Some k ≡ least test n
first_at test n k b lt before is passes = sym (least_at test n k lt before (subst (λ (x : Bool). x ≡ true) is passes))

none_at : (test : ℕ → Bool) (k : ℕ) (b : Bool) → least test k ≡ None → b ≡ test k → b ≡ false → least test (suc k) ≡ None
none_at test k b before is fails =
    let none : test k ≡ false = subst (λ (x : Bool). x ≡ false) is fails in
    rw before (rw none refl)

pub none_more : (test : ℕ → Bool) (k : ℕ) (b : Bool) → least test k ≡ None → b ≡ test k → b ≡ false → least test (k + 1) ≡ None
none_more test k b before is fails =
    let next : suc k ≡ k + 1 = omega arith in
    subst (λ (n : ℕ). least test n ≡ None) next (none_at test k b before is fails)

pub none_to : (test : ℕ → Bool) (k n : ℕ) → k ≡ n → least test k ≡ None → None ≡ least test n
none_to test k n same before = sym (subst (λ (m : ℕ). least test m ≡ None) same before)
