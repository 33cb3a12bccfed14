-- Multiples of a number.
use Rattle.std.specs.Prelude.{ℕ, ◌+◌, ◌-◌, ◌*◌, ◌/◌}

-- the least multiple from n on
abbrev pub rounded_up : ℕ → ℕ → ℕ
rounded_up multiple n = (n + (multiple - 1)) / multiple * multiple
