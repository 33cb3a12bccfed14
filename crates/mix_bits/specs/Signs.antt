-- Which numbers of a size are negative, and which are none of the size, without a bound.
use Rattle.std.specs.Prelude.{ℕ, ℤ, pos, neg_ℤ, nat_le, int_lt, int_le, Bool, ◌||◌}
use Rattle.mix_bits.specs.declared.size.Size.{Size}
use Rattle.mix_bits.specs.declared.size.Size.TheVariants.{Zero, One, Two, Four}

-- the number from which on a value of the size is negative
abbrev pub half : Size → ℕ
half Zero = 1
half One = 0x80
half Two = 0x8000
half Four = 0x80000000

-- whether a value of the size is negative
abbrev pub is_negative : Size → ℕ → Bool
is_negative s value = nat_le (half s) value

-- whether a number is no signed one where so many values are negative
abbrev pub leaves_half : ℕ → ℤ → Bool
leaves_half count z = int_lt z (neg_ℤ (pos count)) || int_le (pos count) z

-- whether a number is no signed number of the size
abbrev pub leaves : Size → ℤ → Bool
leaves s z = leaves_half (half s) z
