-- The size of bits 7 and 6 where they are neither 0 nor 1.
use Rattle.std.proofs.Common.{ℕ, ◌≡◌, ◌≢◌, ◌==◌, false, refl, arith}
use Rattle.std.proofs.lemmas.Bool.Decides.{nat_tests}
use Rattle.mix_bits.specs.declared.size.Size.TheVariants.{Four}
use Rattle.m68_isa.specs.First.{size_of}

apart : (n k : ℕ) → n ≢ k → (n == k) ≡ false
apart n k other = grind (arith, nat_tests, other)

pub long_size : (n : ℕ) → n ≢ 0 → n ≢ 1 → size_of n ≡ Four
long_size n byte word = rw (apart n 0 byte, apart n 1 word) refl
