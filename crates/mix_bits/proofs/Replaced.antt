-- Laws of a replaced digit.
use Rattle.std.proofs.Common.{◌≡◌, inl, inr, ℕ, ◌+◌, ◌-◌, ◌*◌, ◌/◌, ◌%◌, ◌^◌, ◌<◌, ◌≤◌, sym, ap, ◌∙◌, arith}
use Rattle.std.proofs.lemmas.Nat.{pow_pos, mod_below, field_of, mod_low, shr-shr, shr_high}
use Rattle.std.proofs.Math.Pow.{mod-mod-pow}
use Rattle.mix_bits.specs.Digits.{digit_of, digit_replaced}
use Rattle.mix_bits.specs.laws.Laws.{ReadsReplaced, OthersStay}

-- what stands from the replaced digit on
from_digit : (v at width d : ℕ) → digit_replaced v at width d / 2 ^ at ≡ v / 2 ^ (at + width) * 2 ^ width + d
from_digit v at width d = shr_high _ at (v % 2 ^ at) (mod_below v (2 ^ at) (pow_pos at))

pub reads_replaced : ReadsReplaced
reads_replaced v at width d small =
    ap (λ n. n % 2 ^ width) (from_digit v at width d) ∙ mod_low (v / 2 ^ (at + width)) width d small

-- what stands below it stays, so the digits there do
low : (v at width d : ℕ) → digit_replaced v at width d % 2 ^ at ≡ v % 2 ^ at
low v at width d = mod_low _ at (v % 2 ^ at) (mod_below v (2 ^ at) (pow_pos at))

lower : (v w at n : ℕ) → n ≤ at → w % 2 ^ at ≡ v % 2 ^ at → w % 2 ^ n ≡ v % 2 ^ n
lower v w at n within same =
    let whole : at - n + n ≡ at = omega arith in
    sym (mod-mod-pow w (at - n) n) ∙ ap (λ k. w % 2 ^ k % 2 ^ n) whole ∙ ap (λ r. r % 2 ^ n) same
    ∙ ap (λ k. v % 2 ^ k % 2 ^ n) (sym whole) ∙ mod-mod-pow v (at - n) n

below : (v w at place size : ℕ) → size + place ≤ at → w % 2 ^ at ≡ v % 2 ^ at → digit_of w place size ≡ digit_of v place size
below v w at place size within same =
    sym (field_of w size place) ∙ ap (λ r. r / 2 ^ place) (lower v w at (size + place) within same) ∙ field_of v size place

-- what stands above it stays
high : (v at width d : ℕ) → d < 2 ^ width → digit_replaced v at width d / 2 ^ (at + width) ≡ v / 2 ^ (at + width)
high v at width d small =
    sym (shr-shr (digit_replaced v at width d) at width) ∙ ap (λ n. n / 2 ^ width) (from_digit v at width d)
    ∙ shr_high (v / 2 ^ (at + width)) width d small

above : (v w at place size : ℕ) → at ≤ place → w / 2 ^ at ≡ v / 2 ^ at → digit_of w place size ≡ digit_of v place size
above v w at place size after same =
    let whole : at + (place - at) ≡ place = omega arith in
    let shifted : w / 2 ^ place ≡ v / 2 ^ place =
    ap (λ k. w / 2 ^ k) (sym whole) ∙ sym (shr-shr w at (place - at)) ∙ ap (λ n. n / 2 ^ (place - at)) same
    ∙ shr-shr v at (place - at) ∙ ap (λ k. v / 2 ^ k) whole in
    ap (λ n. n % 2 ^ size) shifted

pub others_stay : OthersStay
others_stay v at width d place size small apart =
    elim apart [
      | inl under ↦ below v (digit_replaced v at width d) at place size (omega arith) (low v at width d)
      | inr over ↦ above v (digit_replaced v at width d) (at + width) place size over (high v at width d small)
    ]
