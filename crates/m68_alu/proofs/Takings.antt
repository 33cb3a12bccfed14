-- A difference leaves a size where the sum that takes it back does.
use Rattle.std.proofs.Common.{ℕ, ◌≡◌, ◌≢◌, ◌<◌, Bool}
use Rattle.std.specs.Int.{from_bool}
use Rattle.mix_bits.specs.declared.size.Size.{Size}
use Rattle.mix_bits.specs.declared.size.Size.TheVariants.{Zero}
use Rattle.mix_bits.specs.Sizes.{modulus, signed_of}
use Rattle.mix_bits.specs.Signs.{half, leaves}
use Rattle.m68_alu.specs.Sums.{difference_value, signed_difference, signed_total}
use Rattle.m68_alu.proofs.Halves.{below, bit, difference_is, taken, twice, whole}

pub taken_back : (s : Size) (d r : ℕ) (b : Bool) → s ≢ Zero → d < modulus s → r < modulus s
    → leaves s (signed_total (signed_of (difference_value s d r b) s) (signed_of r s) b) ≡ leaves s (signed_difference (signed_of d s) (signed_of r s) b)
taken_back s d r b some low high =
    let small : difference_value s d r b < modulus s = below s _ some in
    rw (whole s (difference_value s d r b) small, whole s d low, whole s r high)
    (taken (modulus s) (half s) d r (from_bool b) (difference_value s d r b) (twice s some) low high small (bit b) (difference_is s d r b some low high))
