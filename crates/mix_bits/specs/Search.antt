-- Searches among the numbers below a bound, and the first of several refusals.
use Rattle.std.specs.Prelude.{ℕ, zero, suc, ◌+◌, Bool, false, ◌||◌, if◌then◌else◌, Option, Some, None}
use Rattle.std.specs.Int.{from_bool}
use Rattle.mix_bits.specs.SearchOperator.{◌or◌}

-- the value, under a condition
abbrev pub refused : {A : Type 0} → Bool → A → Option A
refused condition x = if condition then Some x else None

-- the least number below a bound that passes a test
abbrev pub least : (ℕ → Bool) → ℕ → Option ℕ
least test zero = None
least test (suc n) = least test n or refused (test n) n

-- how many numbers below a bound pass a test
abbrev pub count_below : (ℕ → Bool) → ℕ → ℕ
count_below test zero = 0
count_below test (suc n) = count_below test n + from_bool (test n)

-- whether a number below a bound passes a test
abbrev pub any_below : (ℕ → Bool) → ℕ → Bool
any_below test zero = false
any_below test (suc n) = any_below test n || test n
