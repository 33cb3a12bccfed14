-- The signed number that a word is.
use Rattle.std.proofs.Common.{◌≡◌, ℕ, ◌-◌, ◌^◌, ◌<◌, ◌≤◌, ℤ, Fits, FitsSigned, pos, negsuc, suc, arith, sym, subst, ◌∙◌, refl, ◌*ℤ◌, ◌+ℤ◌, Bool, true, false, neg_ℤ, unsigned_abs, lit<}
use Rattle.std.specs.Prelude.{◌≤ℤ◌}
use Rattle.std.specs.Int.{cast_signed, cast_unsigned, from_bool, w32, w64}
use Rattle.std.proofs.Math.Facts.{sfits_to_z}
use Rattle.std.proofs.lemmas.Grind.{common_steps}
use Rattle.std.proofs.lemmas.Int.{fits_signed_mul, ints, to_z-of_z}
use Rattle.ppc_alu.specs.Words.{signed}

-- it is the one that a cast gives
pub signed-is : (v : ℕ) → v < 2 ^ 32 → cast_signed w32 v ≡ signed v
signed-is v small = grind (arith, common_steps)

pub signed-negative : (v : ℕ) → 2 ^ 31 ≤ v → v < 2 ^ 32 → signed v ≡ negsuc (2 ^ 32 - suc v)
signed-negative v negative small = grind (arith, common_steps)

pub signed-positive : (v : ℕ) → v < 2 ^ 31 → signed v ≡ pos v
signed-positive v positive = grind (arith, common_steps)

-- and it fits a word
pub fits-cast : (v : ℕ) (z : ℤ) → v < 2 ^ 32 → z ≡ cast_signed w32 v → FitsSigned w32 z
fits-cast v z small is =
    let fits : Fits w32 v = omega (arith, small) in subst (FitsSigned w32) (sym is) (sfits_to_z fits)

-- the product of two words, as signed numbers
most : (z : ℤ) → neg_ℤ (pos 2147483648) ≤ℤ z → z ≤ℤ pos 2147483647 → unsigned_abs z ≤ 2147483648
most z low high = grind (arith, ints)

pub product-fits : (x y : ℤ) → FitsSigned w64 x → FitsSigned w64 y → neg_ℤ (pos 2147483648) ≤ℤ x → x ≤ℤ pos 2147483647
    → neg_ℤ (pos 2147483648) ≤ℤ y → y ≤ℤ pos 2147483647 → FitsSigned w64 (cast_signed w64 (cast_unsigned w64 x) *ℤ cast_signed w64 (cast_unsigned w64 y))
product-fits x y f g low high least most_y =
    rw (to_z-of_z w64 x f, to_z-of_z w64 y g) (fits_signed_mul w64 x y 2147483648 2147483648 (most x low high) (most y least most_y) (lit< tt))

pub product-is : (x y u v : ℤ) → FitsSigned w64 x → FitsSigned w64 y → FitsSigned w64 (cast_signed w64 (cast_unsigned w64 x) *ℤ cast_signed w64 (cast_unsigned w64 y)) → x ≡ u → y ≡ v
    → cast_signed w64 (cast_unsigned w64 (cast_signed w64 (cast_unsigned w64 x) *ℤ cast_signed w64 (cast_unsigned w64 y))) ≡ u *ℤ v
product-is x y u v f g h first second =
    to_z-of_z w64 (cast_signed w64 (cast_unsigned w64 x) *ℤ cast_signed w64 (cast_unsigned w64 y)) h ∙ rw (to_z-of_z w64 x f, to_z-of_z w64 y g, first, second) refl

-- the sum of two words and a carry
pub sum-fits : (a b : ℤ) (carry : Bool) → neg_ℤ (pos 2147483648) ≤ℤ a → a ≤ℤ pos 2147483647 → neg_ℤ (pos 2147483648) ≤ℤ b → b ≤ℤ pos 2147483647
    → FitsSigned w64 (a +ℤ b) × FitsSigned w64 ((a +ℤ b) +ℤ pos (from_bool carry))
sum-fits a b true low high least most_b = (omega (arith, ints), omega (arith, ints))
sum-fits a b false low high least most_b = (omega (arith, ints), omega (arith, ints))

pub sum-is : (a b c : ℤ) (carry : Bool) → FitsSigned w64 a → FitsSigned w64 b → FitsSigned w64 (a +ℤ b) → FitsSigned w64 ((a +ℤ b) +ℤ pos (from_bool carry)) → c ≡ pos (from_bool carry)
    → cast_signed w64 (cast_unsigned w64 (cast_signed w64 (cast_unsigned w64 (cast_signed w64 (cast_unsigned w64 a) +ℤ cast_signed w64 (cast_unsigned w64 b))) +ℤ cast_signed w64 (cast_unsigned w64 c)))
    ≡ (a +ℤ b) +ℤ pos (from_bool carry)
sum-is a b c true f g h k is = rw (is, to_z-of_z w64 a f, to_z-of_z w64 b g, to_z-of_z w64 (a +ℤ b) h, to_z-of_z w64 ((a +ℤ b) +ℤ pos 1) k) refl
sum-is a b c false f g h k is = rw (is, to_z-of_z w64 a f, to_z-of_z w64 b g, to_z-of_z w64 (a +ℤ b) h, to_z-of_z w64 ((a +ℤ b) +ℤ pos 0) k) refl
