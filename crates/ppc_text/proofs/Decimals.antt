-- The lengths of decimal numbers, and sixteen bits as a signed number.
use Rattle.std.proofs.Common.{◌≡◌, ℕ, ◌+◌, ◌-◌, ◌<◌, ◌≤◌, ◌^◌, List, ◌∷◌, ◌++◌, length, length-append, decimal, pos, negsuc, suc, Bool, true, false, arith, sym, ap, subst, ◌∙◌}
use Rattle.std.specs.Fmt.{signed_decimal}
use Rattle.std.proofs.lemmas.Fmt.{length-decimal-le}
use Rattle.std.proofs.lemmas.Grind.{common_steps}
use Rattle.mix_bits.specs.Sizes.{signed_of}
use Rattle.mix_bits.specs.LineClauses.{AppendsWithin}
use Rattle.mix_bits.specs.declared.size.Size.TheVariants.{Two}

decimal_short : (n : ℕ) → n < 2 ^ 16 → length (decimal n) ≤ 5
decimal_short n small = length-decimal-le 5 n (omega arith) (omega (arith, small)) (omega (arith, small))

-- a line to which the decimal digits of sixteen bits are appended, or nothing
pub appended_short : (most : ℕ) (old new : List ℕ) (n : ℕ) (fits : Bool) → n < 2 ^ 16 → AppendsWithin most old new (decimal n) fits → length new ≤ length old + 5
appended_short most old new n true small h =
    subst (λ xs. length xs ≤ length old + 5) (sym h.bytes)
    (subst (λ k. k ≤ length old + 5) (sym (length-append old (decimal n))) (omega (arith, decimal_short n small)))
appended_short most old new n false small h = subst (λ xs. length xs ≤ length old + 5) (sym h.bytes) (omega arith)

pub appended_whole : (most : ℕ) (old new : List ℕ) (n : ℕ) (fits : Bool) → n < 2 ^ 16 → length old + 5 ≤ most → AppendsWithin most old new (decimal n) fits → new ≡ old ++ decimal n
appended_whole most old new n fits small room h = let e = decimal_short n small in grind (arith, common_steps, h)

signed-positive : (n : ℕ) → n < 2 ^ 15 → signed_of n Two ≡ pos n
signed-positive n small = grind (arith, common_steps)

signed-negative : (n : ℕ) → 2 ^ 15 ≤ n → n < 2 ^ 16 → signed_of n Two ≡ negsuc (65535 - n)
signed-negative n negative small = grind (arith, common_steps)

pub text_positive : (n : ℕ) → n < 2 ^ 15 → signed_decimal (signed_of n Two) ≡ decimal n
text_positive n small = ap signed_decimal (signed-positive n small)

pub text_negative : (n : ℕ) → 2 ^ 15 ≤ n → n < 2 ^ 16 → signed_decimal (signed_of n Two) ≡ 45 ∷ decimal (65535 - n + 1)
text_negative n negative small =
    let e : suc (65535 - n) ≡ 65535 - n + 1 = omega arith in
    ap signed_decimal (signed-negative n negative small) ∙ ap (λ k. 45 ∷ decimal k) e
