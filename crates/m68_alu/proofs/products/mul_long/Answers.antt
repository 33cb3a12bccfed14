use Rattle.std.proofs.Common.{◌≡◌, ℕ, ◌*◌, ◌%◌, ◌<◌, ◌^◌, ◌||◌, ◌*ℤ◌, ℤ, Bool, pos, negsuc, FitsSigned, true, false, sym, ap, subst, ◌∙◌, arith}
use Rattle.std.specs.Prelude.{nat_le, nat_lt}
use Rattle.std.proofs.Math.Nat.{mod-eq_of_lt}
use Rattle.std.proofs.lemmas.Bool.Decides.{nat_tests}
use Rattle.std.proofs.lemmas.Nat.{mul-lt}
use Rattle.m68_isa.specs.declared.registers.Ccr.{Ccr}
use Rattle.std.specs.Int.{w64, cast_signed as to_z, cast_unsigned as of_z}
use Rattle.std.proofs.lemmas.Int.{ints, to_z-of_z}
use Rattle.mix_bits.specs.Sizes.{signed_of}
use Rattle.mix_bits.specs.declared.size.Size.TheVariants.{Four}
use Rattle.m68_alu.specs.Products.{leaves_bits, long_multiplied, long_product, low_bits, product, residue}
use Rattle.mix_bits.specs.Signs.{leaves}
use Rattle.m68_alu.proofs.products.mul_long.Goals as goal

-- the bits of a number
bits-are : (z : ℤ) → FitsSigned w64 z → of_z w64 z ≡ residue z (2 ^ 64)
bits-are (pos n) fits = omega (arith, ints)
bits-are (negsuc n) fits = omega (arith, ints)

pub returns-then-signed : goal.returns-then-signed
returns-then-signed c =
    let found = c.signed_product-product.result in
    let exact = signed_of c.args.a Four *ℤ signed_of c.args.b Four in
    let is : to_z w64 (of_z w64 found) ≡ exact = to_z-of_z w64 found c.signed_product-product.ensures.fits ∙ c.signed_product-product.ensures.value in
    let fits : FitsSigned w64 exact = subst (FitsSigned w64) c.signed_product-product.ensures.value c.signed_product-product.ensures.fits in
    let bits : c.cast_unsigned.result ≡ residue exact (2 ^ 64) = c.cast_unsigned.ensures ∙ ap (of_z w64) is ∙ bits-are exact fits in
    let far : c.leaves.result ≡ leaves_bits true 32 exact = c.leaves.ensures ∙ ap (leaves Four) is in
    c.halves.ensures ∙ ap (λ l. long_product c.args.wide l c.cast_unsigned.result c.args.old) far
    ∙ ap (λ v. long_product c.args.wide (leaves_bits true 32 exact) v c.args.old) bits
    ∙ sym (ap (λ s. long_multiplied s c.args.wide c.args.a c.args.b c.args.old) c.if-signed.true)

none : (n : ℕ) → nat_lt n 0 ≡ false
none n = grind (arith, nat_tests)

small : (a b m n : ℕ) → a < 2 ^ 32 → b < 2 ^ 32 → m ≡ a → n ≡ b → m * n < 2 ^ 64
small a b m n low high first second = rw (first, second) (mul-lt a b (2 ^ 32) (2 ^ 32) low high)

unsigned : (a b m n : ℕ) (wide : Bool) (old : Ccr) → a < 2 ^ 32 → b < 2 ^ 32 → m ≡ a → n ≡ b → long_product wide (nat_le (2 ^ 32) (m * n)) (m * n) old ≡ long_multiplied false wide a b old
unsigned a b m n wide old low high first second =
    let same : m * n ≡ a * b = ap (λ k. k * n) first ∙ ap (λ k. a * k) second in
    let exact : product false 32 a b ≡ pos (a * b) = ap (λ k. pos k *ℤ pos (b % 2 ^ 32)) (mod-eq_of_lt low) ∙ ap (λ k. pos a *ℤ pos k) (mod-eq_of_lt high) in
    let whole : low_bits 64 (pos (a * b)) ≡ a * b = mod-eq_of_lt (mul-lt a b (2 ^ 32) (2 ^ 32) low high) in
    let far : leaves_bits false 32 (pos (a * b)) ≡ nat_le (2 ^ 32) (a * b) = ap (λ t. t || nat_le (2 ^ 32) (a * b)) (none (a * b)) in
    ap (λ k. long_product wide (nat_le (2 ^ 32) k) k old) same
    ∙ sym (ap (λ z. long_product wide (leaves_bits false 32 z) (low_bits 64 z) old) exact
    ∙ ap (λ t. long_product wide t (low_bits 64 (pos (a * b))) old) far
    ∙ ap (λ v. long_product wide (nat_le (2 ^ 32) (a * b)) v old) whole)

pub overflow_mul-product : goal.overflow_mul-product
overflow_mul-product c =
    let below : c.from.result * c.from-else-signed.result < 2 ^ 64 =
    small c.args.a c.args.b c.from.result c.from-else-signed.result c.ranges.a.fits c.ranges.b.fits c.from.ensures c.from-else-signed.ensures in
    omega (arith, below)

pub returns-else-signed : goal.returns-else-signed
returns-else-signed c =
    c.halves-else-signed.ensures
    ∙ unsigned c.args.a c.args.b c.from.result c.from-else-signed.result c.args.wide c.args.old c.ranges.a.fits c.ranges.b.fits c.from.ensures c.from-else-signed.ensures
    ∙ sym (ap (λ s. long_multiplied s c.args.wide c.args.a c.args.b c.args.old) c.if-signed.false)
