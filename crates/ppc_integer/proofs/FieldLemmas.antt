-- A digit of four bits taken away from a number, and another one added in its place.
use Rattle.std.proofs.Common.{◌≡◌, ℕ, ◌+◌, ◌-◌, ◌*◌, ◌/◌, ◌%◌, ◌^◌, ◌<◌, arith, sym, ap, subst, ◌∙◌}
use Rattle.std.proofs.lemmas.Nat.{mul-add-lt, pow-add, pow_pos, shr-shr}
use Rattle.std.proofs.Math.Nat.{add-mul, div-add-mod, div-lt_iff_lt-mul, mod-lt, mul_comm}
use Rattle.mix_bits.specs.Digits.{digit_of, digit_replaced}

-- a number as what stands above the digit, in it and below it, where its lowest bit counts p
parts : (v p : ℕ) → v ≡ 16 * (v / p / 16) * p + v / p % 16 * p + v % p
parts v p =
    let whole : p * (v / p) + v % p ≡ v = div-add-mod v p in
    let split : 16 * (v / p / 16) + v / p % 16 ≡ v / p = div-add-mod (v / p) 16 in
    let product : p * (v / p) ≡ 16 * (v / p / 16) * p + v / p % 16 * p =
    ap (λ n. p * n) (sym split) ∙ mul_comm p _ ∙ add-mul (16 * (v / p / 16)) (v / p % 16) p in
    omega arith

pub exchanged : (v at d : ℕ) → v - digit_of v at 4 * 2 ^ at + d * 2 ^ at ≡ digit_replaced v at 4 d
exchanged v at d =
    let is : v ≡ 16 * (v / 2 ^ at / 16) * 2 ^ at + v / 2 ^ at % 16 * 2 ^ at + v % 2 ^ at = parts v (2 ^ at) in
    let high : 16 * (v / 2 ^ at / 16) * 2 ^ at ≡ v / 2 ^ (at + 4) * 16 * 2 ^ at =
    ap (λ n. n * 2 ^ at) (mul_comm 16 _ ∙ ap (λ n. n * 16) (shr-shr v at 4)) in
    let sum : (v / 2 ^ (at + 4) * 16 + d) * 2 ^ at ≡ v / 2 ^ (at + 4) * 16 * 2 ^ at + d * 2 ^ at = add-mul (v / 2 ^ (at + 4) * 16) d (2 ^ at) in
    omega arith

-- the number stays below 2 ^ 32
pub exchanged_fits : (v at rest d : ℕ) → at + 4 + rest ≡ 32 → v < 2 ^ 32 → d < 16 → digit_replaced v at 4 d < 2 ^ 32
exchanged_fits v at rest d total fits small =
    let outside : rest + (at + 4) ≡ 32 = omega (arith, total) in
    let whole : 2 ^ rest * 2 ^ (at + 4) ≡ 2 ^ 32 = sym (pow-add 2 rest (at + 4)) ∙ ap (λ n. 2 ^ n) outside in
    let above : v / 2 ^ (at + 4) < 2 ^ rest = (div-lt_iff_lt-mul (pow_pos (at + 4))).1 (subst (λ n. v < n) (sym whole) fits) in
    let digits : v / 2 ^ (at + 4) * 16 + d < 16 * 2 ^ rest = mul-add-lt _ _ _ _ above small in
    let all : digit_replaced v at 4 d < 2 ^ at * (16 * 2 ^ rest) = mul-add-lt _ _ _ _ digits (mod-lt v (pow_pos at)) in
    let size : at + (4 + rest) ≡ 32 = omega (arith, total) in
    subst (λ n. digit_replaced v at 4 d < n) (ap (λ n. 2 ^ at * n) (sym (pow-add 2 4 rest)) ∙ sym (pow-add 2 at (4 + rest)) ∙ ap (λ n. 2 ^ n) size) all
