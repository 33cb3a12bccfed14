-- Bounds and laws of powers of two, for digits of numbers.
use Rattle.std.proofs.Common.{◌≡◌, ℕ, ◌+◌, ◌-◌, ◌*◌, ◌/◌, ◌^◌, ◌<◌, ◌≤◌, sym, ap, ◌∙◌, subst, arith}
use Rattle.std.proofs.lemmas.Nat.{mul-add-lt, pow-add, pow_pos}
use Rattle.std.proofs.Math.Nat.{div-lt_iff_lt-mul, mod-lt}
use Rattle.mix_bits.specs.Digits.{digit_replaced}

-- a power of two times a power of two that together have 32 bits
joined : (i j : ℕ) → i + j ≡ 32 → 2 ^ i * 2 ^ j ≡ 2 ^ 32
joined i j total = sym (pow-add 2 i j) ∙ ap (λ n. 2 ^ n) total

-- the bound where `rest` bits stand above the digit
replaced_below : (v at width rest d : ℕ) → at + width + rest ≡ 32 → v < 2 ^ 32 → d < 2 ^ width → digit_replaced v at width d < 2 ^ 32
replaced_below v at width rest d total fits small =
    let whole : 2 ^ rest * 2 ^ (at + width) ≡ 2 ^ 32 = joined rest (at + width) (omega (arith, total)) in
    let above : v / 2 ^ (at + width) < 2 ^ rest = (div-lt_iff_lt-mul (pow_pos (at + width))).1 (subst (λ n. v < n) (sym whole) fits) in
    let digits : v / 2 ^ (at + width) * 2 ^ width + d < 2 ^ width * 2 ^ rest = mul-add-lt _ _ _ _ above small in
    let all : digit_replaced v at width d < 2 ^ at * (2 ^ width * 2 ^ rest) = mul-add-lt _ _ _ _ digits (mod-lt v (pow_pos at)) in
    subst (λ n. digit_replaced v at width d < n) (ap (λ n. 2 ^ at * n) (sym (pow-add 2 width rest)) ∙ joined at (width + rest) (omega (arith, total))) all

-- a word with a digit replaced is a word
pub replaced_fits : (v at width d : ℕ) → at + width ≤ 32 → v < 2 ^ 32 → d < 2 ^ width → digit_replaced v at width d < 2 ^ 32
replaced_fits v at width d within fits small = replaced_below v at width (32 - (at + width)) d (omega (arith, within)) fits small
