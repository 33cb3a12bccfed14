-- The lengths of numbers.
use Rattle.std.proofs.Common.{◌≡◌, ℕ, zero, suc, ◌+◌, ◌<◌, ◌≤◌, ◌^◌, List, ◌++◌, length, length-append, decimal, Bool, true, false, refl, arith, sym, ap, subst}
use Rattle.std.proofs.lemmas.Fmt.{length-decimal-le}
use Rattle.std.proofs.lemmas.Grind.{common_steps}
use Rattle.mix_bits.specs.LineClauses.{AppendsWithin}
use Rattle.mix_bits.specs.Text.{hexadecimal}

pub hexadecimal_length : (k v : ℕ) → length (hexadecimal k v) ≡ k
hexadecimal_length zero v = refl
hexadecimal_length (suc k) v = ap suc (hexadecimal_length k v)

decimal_short : (n : ℕ) → n < 2 ^ 8 → length (decimal n) ≤ 3
decimal_short n small = length-decimal-le 3 n (omega arith) (omega (arith, small)) (omega (arith, small))

-- a line to which the decimal digits of eight bits are appended, or nothing
pub appended_short : (most : ℕ) (old new : List ℕ) (n : ℕ) (fits : Bool) → n < 2 ^ 8 → AppendsWithin most old new (decimal n) fits → length new ≤ length old + 3
appended_short most old new n true small h =
    subst (λ xs. length xs ≤ length old + 3) (sym h.bytes)
    (subst (λ k. k ≤ length old + 3) (sym (length-append old (decimal n))) (omega (arith, decimal_short n small)))
appended_short most old new n false small h = subst (λ xs. length xs ≤ length old + 3) (sym h.bytes) (omega arith)

pub appended_whole : (most : ℕ) (old new : List ℕ) (n : ℕ) (fits : Bool) → n < 2 ^ 8 → length old + 3 ≤ most → AppendsWithin most old new (decimal n) fits → new ≡ old ++ decimal n
appended_whole most old new n fits small room h = let e = decimal_short n small in grind (arith, common_steps, h)
