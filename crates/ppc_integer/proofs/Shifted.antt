-- Bits of the condition register and of BO as numbers.
use Rattle.std.proofs.Common.{◌≡◌, ℕ, zero, suc, ◌*◌, ◌/◌, ◌%◌, ◌^◌, ◌+◌, ◌-◌, ◌<◌, ◌==◌, arith, ap, ◌∙◌, refl, pow-add}
use Rattle.std.proofs.lemmas.Nat.{pow_pos}
use Rattle.std.proofs.Math.Nat.{mul-div-mul_right}
use Rattle.ppc_integer.specs.Branches.{is_same}

-- the top bit of 32
halves : (x : ℕ) → x % 4294967296 / 2147483648 ≡ x / 2147483648 % 2
halves x = omega arith

parts : (b : ℕ) → b < 32 → 2147483648 ≡ 2 ^ (31 - b) * 2 ^ b
parts b below = let e : 31 ≡ (31 - b) + b = omega arith in ap (λ k. 2 ^ k) e ∙ pow-add 2 (31 - b) b

-- a bit shifted to the top
pub top-is : (v b : ℕ) → b < 32 → v * 2 ^ b % 4294967296 / 2147483648 ≡ v / 2 ^ (31 - b) % 2
top-is v b below =
    halves (v * 2 ^ b) ∙ ap (λ q. q % 2) (ap (λ d. v * 2 ^ b / d) (parts b below) ∙ mul-div-mul_right v (2 ^ (31 - b)) (pow_pos b))

pub below-two : (v : ℕ) → v % 2 < 2
below-two v = omega arith

-- two bits are equal where the one is set as the other is
pub same-bits : (x y : ℕ) → x < 2 → y < 2 → (x == y) ≡ is_same (y == 1) (x == 1)
same-bits zero zero one other = refl
same-bits zero (suc zero) one other = refl
same-bits (suc zero) zero one other = refl
same-bits (suc zero) (suc zero) one other = refl
same-bits (suc (suc x)) y one other = absurd (omega (arith, one))
same-bits zero (suc (suc y)) one other = absurd (omega (arith, other))
same-bits (suc zero) (suc (suc y)) one other = absurd (omega (arith, other))
