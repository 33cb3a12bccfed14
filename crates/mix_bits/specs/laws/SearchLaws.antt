-- Laws of searches among the numbers below a bound.
use Rattle.std.specs.Prelude.{◌≡◌, ℕ, ◌<◌, Bool, true, false, Some, None}
use Rattle.mix_bits.specs.Search.{count_below, least}

-- where the first number that passes is the least
abbrev pub FirstIsLeast : Type 0
FirstIsLeast = (test : ℕ → Bool) (n k : ℕ) → k < n → least test k ≡ None → test k ≡ true → least test n ≡ Some k

-- where none passes, and where all before one fail
abbrev pub NoneIsLeast : Type 0
NoneIsLeast = (test : ℕ → Bool) (n : ℕ) → ((k : ℕ) → k < n → test k ≡ false) → least test n ≡ None

abbrev pub LeastOfFailing : Type 0
LeastOfFailing = (test : ℕ → Bool) (n k : ℕ) → k < n → ((i : ℕ) → i < k → test i ≡ false) → test k ≡ true → least test n ≡ Some k

-- where none is the least, each fails, and none is counted
abbrev pub FailsBelow : Type 0
FailsBelow = (test : ℕ → Bool) (n k : ℕ) → least test n ≡ None → k < n → test k ≡ false

abbrev pub NoneIsCounted : Type 0
NoneIsCounted = (test : ℕ → Bool) (n : ℕ) → least test n ≡ None → count_below test n ≡ 0
