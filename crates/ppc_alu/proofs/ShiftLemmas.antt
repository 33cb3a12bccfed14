-- All bits of a word are shifted out by 32 or more.
use Rattle.std.proofs.Common.{◌≡◌, ℕ, zero, suc, ◌+◌, ◌-◌, ◌*◌, ◌/◌, ◌%◌, ◌^◌, ◌<◌, ◌≤◌, ◌==◌, ◌&&◌, not, Bool, true, false, pos, negsuc, arith, sym, ap, subst, ◌∙◌, refl}
use Rattle.std.specs.Int.{cast_unsigned, int_shr, w32}
use Rattle.std.proofs.Math.Nat.{mod-eq_of_lt, div-eq_of_lt}
use Rattle.std.proofs.Math.Pow.{pow_mono}
use Rattle.std.proofs.lemmas.Bool.{leb-true, leb-false}
use Rattle.std.proofs.lemmas.Bool.Decides.{nat_tests}
use Rattle.ppc_alu.specs.Outcomes.{shifted}
use Rattle.ppc_alu.specs.Words.{is_negative, signed}
use Rattle.ppc_alu.specs.declared.arith.Arith.{Arith}
use Rattle.ppc_alu.proofs.SignedLemmas.{signed-negative, signed-positive}

-- a result without overflow
plain : ℕ → Bool → Arith
plain value ca = record { value = value; ca = ca; ov = false }

-- a word is below a power that leaves none of its bits
below-power : (v n : ℕ) → v < 2 ^ 32 → 32 ≤ n → v < 2 ^ n
below-power v n small far = let more : 2 ^ 32 ≤ 2 ^ n = pow_mono far in omega (arith, small, more)

not-zero : (v : ℕ) → 2 ^ 31 ≤ v → (v == 0) ≡ false
not-zero v high = grind (arith, nat_tests)

pub shifted-out_negative : (v n : ℕ) → v < 2 ^ 32 → 32 ≤ n → true ≡ is_negative v → record { value = 2 ^ 32 - 1; ca = true; ov = false } ≡ shifted v n
unfolding plain
shifted-out_negative v n small far negative =
    let high : 2 ^ 31 ≤ v = leb-true (2 ^ 31) v (sym negative) in
    let none : (2 ^ 32 - suc v) / 2 ^ n ≡ 0 = div-eq_of_lt (below-power (2 ^ 32 - suc v) n (omega (arith, small)) far) in
    let value : 2 ^ 32 - 1 ≡ cast_unsigned w32 (int_shr (signed v) n) =
    sym (ap (λ z. cast_unsigned w32 (int_shr z n)) (signed-negative v high small) ∙ ap (λ k. cast_unsigned w32 (negsuc k)) none) in
    let all : v % 2 ^ n ≡ v = mod-eq_of_lt (below-power v n small far) in
    let some : (v % 2 ^ n == 0) ≡ false = ap (λ k. k == 0) all ∙ not-zero v high in
    let carry : true ≡ (is_negative v && not (v % 2 ^ n == 0)) = ap (λ b. b && true) negative ∙ ap (λ b. is_negative v && not b) (sym some) in
    ap (λ k. plain k true) value ∙ ap (plain (cast_unsigned w32 (int_shr (signed v) n))) carry

pub shifted-out_positive : (v n : ℕ) → v < 2 ^ 32 → 32 ≤ n → false ≡ is_negative v → record { value = 0; ca = false; ov = false } ≡ shifted v n
unfolding plain
shifted-out_positive v n small far positive =
    let low : v < 2 ^ 31 = leb-false (2 ^ 31) v (sym positive) in
    let none : v / 2 ^ n ≡ 0 = div-eq_of_lt (below-power v n small far) in
    let value : 0 ≡ cast_unsigned w32 (int_shr (signed v) n) =
    sym (ap (λ z. cast_unsigned w32 (int_shr z n)) (signed-positive v low) ∙ ap (λ k. cast_unsigned w32 (pos k)) none) in
    let carry : false ≡ (is_negative v && not (v % 2 ^ n == 0)) = ap (λ b. b && not (v % 2 ^ n == 0)) positive in
    ap (λ k. plain k false) value ∙ ap (plain (cast_unsigned w32 (int_shr (signed v) n))) carry
