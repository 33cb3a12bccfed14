-- The places of the fields that a mask names: the checker computes all masks.
use Rattle.std.proofs.Common.{◌≡◌, ℕ, ◌+◌, ◌*◌, ◌/◌, ◌%◌, ◌^◌, ◌<◌, ◌==◌, true, arith, refl}
use Rattle.std.proofs.lemmas.Bool.{eqb-true}
use Rattle.mix_bits.specs.laws.Ranges.{every}
use Rattle.mix_bits.proofs.Every.{every_at}
use Rattle.ppc_integer.specs.Conditions.{field_mask_of}

-- the fields' places as digits to the base 16
by_digits : ℕ → ℕ
by_digits n =
    (((n / 128 % 2 * 16 + n / 64 % 2) * 256 + n / 32 % 2 * 16 + n / 16 % 2) * 65536
    + ((n / 8 % 2 * 16 + n / 4 % 2) * 256 + n / 2 % 2 * 16 + n % 2)) * 15

all-fields-agree : every 9 0 (λ n. by_digits n == field_mask_of n) ≡ true
unfolding by_digits
all-fields-agree = refl

pub fields_are : (n : ℕ) → n < 512 →
    (((n / 128 % 2 * 16 + n / 64 % 2) * 256 + n / 32 % 2 * 16 + n / 16 % 2) * 65536
    + ((n / 8 % 2 * 16 + n / 4 % 2) * 256 + n / 2 % 2 * 16 + n % 2)) * 15 ≡ field_mask_of n
unfolding by_digits
fields_are n below =
    eqb-true (by_digits n) (field_mask_of n) (every_at 9 (λ k. by_digits k == field_mask_of k) n all-fields-agree (omega (arith, below)))
