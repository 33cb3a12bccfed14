-- The range of one frame, in units.
use Rattle.std.specs.Prelude.{ℕ, ◌*◌, nat_le, nat_lt, Bool, ◌&&◌}

-- whether a unit of 16 bytes lies in the range of a record
abbrev pub in_range : ℕ → ℕ → ℕ → Bool
in_range lo hi unit = nat_le lo (16 * unit) && nat_lt (16 * unit) hi
