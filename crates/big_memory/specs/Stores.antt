-- Stores that are done as a whole or refused as a whole, and what they leave of memory.
use Rattle.std.specs.Prelude.{ℕ, List, [], ◌∷◌, Option, Some, None, Result, Ok, Err}
use Rattle.mix_bits.specs.declared.size.Size.{Size}
use Rattle.mix_bits.specs.declared.size.Size.TheVariants.{Four}
use Rattle.mix_bits.specs.Sizes.{bytes_of}
use Rattle.mix_bits.specs.Addresses.{onward}
use Rattle.mix_bits.specs.Results.{◌>>=◌}
use Rattle.big_memory.specs.declared.refusals.Access.{Access}
use Rattle.big_memory.specs.Memory.{Memory, refusal, stored}

-- the memory that a store leaves, unless it is refused
abbrev pub stored_unless : Option Access → Memory → Result Memory Access
stored_unless None m = Ok m
stored_unless (Some e) m = Err e

-- the low bytes of a number stored at an address
unfoldable pub stored_value : Memory → ℕ → Size → ℕ → Result Memory Access
stored_value m a s v = stored_unless (refusal m a (bytes_of s)) (stored m a s v)

abbrev pub stored_long : Memory → ℕ → ℕ → Result Memory Access
stored_long m a v = stored_value m a Four v

-- longs stored one after another, from an address on
unfoldable pub stored_longs : Memory → ℕ → List ℕ → Result Memory Access
stored_longs m a [] = Ok m
stored_longs m a (v ∷ vs) = stored_long m a v >>= λ n. stored_longs n (onward a 4) vs
