-- Tests of all numbers of a range, which the checker computes.
use Rattle.std.specs.Prelude.{ℕ, zero, suc, ◌+◌, ◌*◌, Bool, false, if◌then◌else◌}

-- whether a test holds of each of the 2 ^ k numbers from 2 ^ k * base on
abbrev pub every : ℕ → ℕ → (ℕ → Bool) → Bool
every zero base p = p base
every (suc k) base p = if every k (base * 2) p then every k (base * 2 + 1) p else false
