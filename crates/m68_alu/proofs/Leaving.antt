-- A signed sum leaves a size exactly where the signed number of the result is another one.
use Rattle.std.proofs.Common.{ℕ, ℤ, ◌≡◌, ◌≢◌, ◌<◌, ◌%◌, ◌↔◌, Bool, true, false, refl, sym, ap, ◌∙◌}
use Rattle.mix_bits.specs.declared.size.Size.{Size}
use Rattle.mix_bits.specs.declared.size.Size.TheVariants.{Zero}
use Rattle.mix_bits.specs.Sizes.{modulus, signed_of}
use Rattle.mix_bits.specs.Signs.{half, leaves}
use Rattle.std.specs.Int.{from_bool}
use Rattle.m68_alu.proofs.Halves.{below, bit, difference_is, difference_stays, inside, sum_is, sum_stays, twice, whole}
use Rattle.m68_alu.specs.Sums.{difference_value, signed_difference, signed_total, sum_value}

-- the signed number of a value is one of its size
within : (s : Size) (v : ℕ) → s ≢ Zero → leaves s (signed_of v s) ≡ false
within s v some = inside (modulus s) (half s) (v % modulus s) (twice s some) (below s v some)

kept_sum : (s : Size) (d r : ℕ) (carry : Bool) → s ≢ Zero → d < modulus s → r < modulus s
    → leaves s (signed_total (signed_of d s) (signed_of r s) carry) ≡ false → signed_of (sum_value s d r carry) s ≡ signed_total (signed_of d s) (signed_of r s) carry
kept_sum s d r carry some low high =
    let small : sum_value s d r carry < modulus s = below s _ some in
    rw (whole s (sum_value s d r carry) small, whole s d low, whole s r high)
    (sum_stays (modulus s) (half s) d r (from_bool carry) (sum_value s d r carry) (twice s some) low high small (bit carry) (sum_is s d r carry some low high))

kept_difference : (s : Size) (d r : ℕ) (borrow : Bool) → s ≢ Zero → d < modulus s → r < modulus s
    → leaves s (signed_difference (signed_of d s) (signed_of r s) borrow) ≡ false → signed_of (difference_value s d r borrow) s ≡ signed_difference (signed_of d s) (signed_of r s) borrow
kept_difference s d r borrow some low high =
    let small : difference_value s d r borrow < modulus s = below s _ some in
    rw (whole s (difference_value s d r borrow) small, whole s d low, whole s r high)
    (difference_stays (modulus s) (half s) d r (from_bool borrow) (difference_value s d r borrow) (twice s some) low high small (bit borrow) (difference_is s d r borrow some low high))

-- the two ways, where what stays in the size is the signed number of the result
apart : true ≢ false
apart same = cc

decided : (b : Bool) → (b ≡ false → ⊥) → b ≡ true
decided true never = refl
decided false never = absurd (never refl)

two-ways : (s : Size) (v : ℕ) (t : ℤ) → s ≢ Zero → (leaves s t ≡ false → signed_of v s ≡ t) → (leaves s t ≡ true) ↔ (signed_of v s ≢ t)
two-ways s v t some kept = (
  (λ left. λ same. apart (sym left ∙ ap (leaves s) (sym same) ∙ within s v some)),
  (λ other. decided (leaves s t) (λ stays. other (kept stays))),
)

pub of_sum : (s : Size) (d r : ℕ) (carry : Bool) → s ≢ Zero → d < modulus s → r < modulus s
    → (leaves s (signed_total (signed_of d s) (signed_of r s) carry) ≡ true) ↔ (signed_of (sum_value s d r carry) s ≢ signed_total (signed_of d s) (signed_of r s) carry)
of_sum s d r carry some low high = two-ways s (sum_value s d r carry) (signed_total (signed_of d s) (signed_of r s) carry) some (kept_sum s d r carry some low high)

pub of_difference : (s : Size) (d r : ℕ) (borrow : Bool) → s ≢ Zero → d < modulus s → r < modulus s
    → (leaves s (signed_difference (signed_of d s) (signed_of r s) borrow) ≡ true) ↔ (signed_of (difference_value s d r borrow) s ≢ signed_difference (signed_of d s) (signed_of r s) borrow)
of_difference s d r borrow some low high = two-ways s (difference_value s d r borrow) (signed_difference (signed_of d s) (signed_of r s) borrow) some (kept_difference s d r borrow some low high)
