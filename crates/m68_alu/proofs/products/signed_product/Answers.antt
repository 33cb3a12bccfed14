use Rattle.std.proofs.Common.{◌≡◌, ◌≤◌, ◌*ℤ◌, ℤ, pos, neg_ℤ, unsigned_abs, ◌≤ℤ◌, FitsSigned, lit<, sym, subst, ◌∙◌, refl, arith}
use Rattle.std.specs.Int.{w64, cast_signed as to_z, cast_unsigned as of_z}
use Rattle.std.proofs.lemmas.Int.{fits_signed_mul, ints, to_z-of_z}
use Rattle.m68_alu.proofs.products.signed_product.Goals as goal

most : (z : ℤ) → neg_ℤ (pos 2147483648) ≤ℤ z → z ≤ℤ pos 2147483647 → unsigned_abs z ≤ 2147483648
most z low high = grind (arith, ints)

product-fits : (x y : ℤ) → FitsSigned w64 x → FitsSigned w64 y → unsigned_abs x ≤ 2147483648 → unsigned_abs y ≤ 2147483648 → FitsSigned w64 (to_z w64 (of_z w64 x) *ℤ to_z w64 (of_z w64 y))
product-fits x y f g m n = rw (to_z-of_z w64 x f, to_z-of_z w64 y g) (fits_signed_mul w64 x y 2147483648 2147483648 m n (lit< tt))

whole : (x y : ℤ) → FitsSigned w64 x → FitsSigned w64 y → to_z w64 (of_z w64 x) *ℤ to_z w64 (of_z w64 y) ≡ x *ℤ y
whole x y f g = rw (to_z-of_z w64 x f, to_z-of_z w64 y g) refl

both : (x y u v : ℤ) → x ≡ u → y ≡ v → x *ℤ y ≡ u *ℤ v
both x y u v e f = rw (e, f) refl

pub overflow_mul-result : goal.overflow_mul-result
overflow_mul-result c =
    product-fits c.signed.result c.signed-2.result c.signed.ensures.fits c.signed-2.ensures.fits
    (most _ c.signed.ensures.low c.signed.ensures.high) (most _ c.signed-2.ensures.low c.signed-2.ensures.high)

pub returns : goal.returns
returns c =
    let x = c.signed.result in
    let y = c.signed-2.result in
    let f = c.signed.ensures.fits in
    let g = c.signed-2.ensures.fits in
    let fits : FitsSigned w64 (to_z w64 (of_z w64 x) *ℤ to_z w64 (of_z w64 y)) =
    product-fits x y f g (most _ c.signed.ensures.low c.signed.ensures.high) (most _ c.signed-2.ensures.low c.signed-2.ensures.high) in
    let same = to_z-of_z w64 (to_z w64 (of_z w64 x) *ℤ to_z w64 (of_z w64 y)) fits in
    record {
      value = same ∙ whole x y f g ∙ both _ _ _ _ c.signed.ensures.value c.signed-2.ensures.value;
      fits = subst (FitsSigned w64) (sym same) fits;
    }
