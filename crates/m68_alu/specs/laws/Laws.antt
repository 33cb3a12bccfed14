-- That an overflow can be told in two ways: a signed sum leaves the size of its operands exactly where the signed
-- number of the result is another one.
use Rattle.std.specs.Prelude.{ℕ, ◌≡◌, ◌≢◌, ◌<◌, ◌↔◌, Bool, true}
use Rattle.mix_bits.specs.Sizes.{modulus, signed_of}
use Rattle.mix_bits.specs.declared.size.Size.{Size}
use Rattle.mix_bits.specs.declared.size.Size.TheVariants.{Zero}
use Rattle.mix_bits.specs.Signs.{leaves}
use Rattle.m68_alu.specs.Sums.{difference_value, signed_difference, signed_total, sum_value}

pub record OverflowLaws : Type 0 where
  pub of_sum : (s : Size) (d r : ℕ) (carry : Bool) → s ≢ Zero → d < modulus s → r < modulus s
      → (leaves s (signed_total (signed_of d s) (signed_of r s) carry) ≡ true) ↔ (signed_of (sum_value s d r carry) s ≢ signed_total (signed_of d s) (signed_of r s) carry)
  pub of_difference : (s : Size) (d r : ℕ) (borrow : Bool) → s ≢ Zero → d < modulus s → r < modulus s
      → (leaves s (signed_difference (signed_of d s) (signed_of r s) borrow) ≡ true) ↔ (signed_of (difference_value s d r borrow) s ≢ signed_difference (signed_of d s) (signed_of r s) borrow)
