-- Groups of bits as digits of a number.
use Rattle.std.specs.Prelude.{ℕ, ◌+◌, ◌*◌, ◌/◌, ◌%◌, ◌^◌}

-- the digit of `width` bits whose lowest one is bit `at`
abbrev pub digit_of : ℕ → ℕ → ℕ → ℕ
digit_of v at width = v / 2 ^ at % 2 ^ width

-- the number with that digit replaced
abbrev pub digit_replaced : ℕ → ℕ → ℕ → ℕ → ℕ
digit_replaced v at width d = (v / 2 ^ (at + width) * 2 ^ width + d) * 2 ^ at + v % 2 ^ at
