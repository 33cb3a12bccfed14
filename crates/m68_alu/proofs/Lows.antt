-- A number leaves a size where it is not what its low bytes are.
use Rattle.std.proofs.Common.{ℤ, ◌≡◌, ◌≢◌, ◌%◌, ◌^◌, ◌||◌, refl, arith}
use Rattle.std.specs.Prelude.{pos, neg_ℤ, int_lt, ◌≤ℤ◌}
use Rattle.std.specs.Int.{w64, cast_unsigned}
use Rattle.std.proofs.lemmas.Bool.Decides.{nat_tests}
use Rattle.std.proofs.lemmas.Int.{ints}
use Rattle.mix_bits.specs.declared.size.Size.{Size}
use Rattle.mix_bits.specs.declared.size.Size.TheVariants.{Zero, One, Two, Four}
use Rattle.mix_bits.specs.Sizes.{signed_of}
use Rattle.mix_bits.specs.Signs.{leaves}

pub low_leaves : (s : Size) (z : ℤ) → s ≢ Zero → neg_ℤ (pos 4294967296) ≤ℤ z → z ≤ℤ pos 4294967296
    → (int_lt z (signed_of (cast_unsigned w64 z % 2 ^ 32) s) || int_lt (signed_of (cast_unsigned w64 z % 2 ^ 32) s) z) ≡ leaves s z
low_leaves Zero z some low high = absurd (some refl)
low_leaves One z some low high = grind (arith, nat_tests, ints, low, high)
low_leaves Two z some low high = grind (arith, nat_tests, ints, low, high)
low_leaves Four z some low high = grind (arith, nat_tests, ints, low, high)
