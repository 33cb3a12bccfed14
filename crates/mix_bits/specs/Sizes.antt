-- What a value of a size is, over numbers without a bound.
use Rattle.std.specs.Prelude.{ℕ, ℤ, ◌+◌, ◌-◌, ◌*◌, ◌%◌, ◌^◌, pos, ◌-ℤ◌, nat_lt, if◌then◌else◌}
use Rattle.std.specs.Int.{cast_unsigned, w32}
use Rattle.mix_bits.specs.declared.size.Size.{Size}
use Rattle.mix_bits.specs.declared.size.Size.TheVariants.{Zero, One, Two, Four}

-- how many bytes a value of this size has
abbrev pub bytes_of : Size → ℕ
bytes_of Zero = 0
bytes_of One = 1
bytes_of Two = 2
bytes_of Four = 4

-- how many values there are of this size
abbrev pub modulus : Size → ℕ
modulus s = 256 ^ bytes_of s

-- the low bytes of a number
abbrev pub truncated : ℕ → Size → ℕ
truncated v s = v % modulus s

-- a value below a bound as a signed number: the upper half of the values are the negative ones
abbrev pub signed_below : ℕ → ℕ → ℤ
signed_below bound value = if nat_lt (2 * value) bound then pos value else (pos value -ℤ pos bound)

-- the low bytes as a signed number
abbrev pub signed_of : ℕ → Size → ℤ
signed_of v s = signed_below (modulus s) (truncated v s)

-- that signed number as a pattern of 32 bits
abbrev pub sign_extended : ℕ → Size → ℕ
sign_extended v s = cast_unsigned w32 (signed_of v s)

-- a number with its low bytes replaced by those of another
abbrev pub low_replaced : ℕ → ℕ → Size → ℕ
low_replaced old v s = old - truncated old s + truncated v s
