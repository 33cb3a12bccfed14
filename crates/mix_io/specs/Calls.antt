-- The calls of an object in memory, and which of them fail.
use Rattle.std.specs.Prelude.{ℕ, ◌+◌, ◌-◌, ◌^◌, min, Bool, List, Option, if◌then◌else◌}
use Rattle.std.specs.Option.{option_map}

-- a count with one more, which stands still at the last value of 64 bits
abbrev pub counted : ℕ → ℕ
counted count = min (count + 1) (2 ^ 64 - 1)

-- a count that may be told, with one more
abbrev pub one_more : Option ℕ → Option ℕ
one_more count = option_map counted count

-- a count after a call that failed, or did not
abbrev pub counted_if : Bool → ℕ → ℕ
counted_if failed count = if failed then counted count else count

-- the numbers of the calls that fail, and the number of the next call
pub record CallNumbers : Type 0 where
  pub fails : List ℕ
  pub next : ℕ
