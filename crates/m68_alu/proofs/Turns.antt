-- A number whose lower part moves up over its upper one, and back: one bit more of a rotation.
use Rattle.std.proofs.Common.{ℕ, ◌≡◌, ◌+◌, ◌-◌, ◌*◌, ◌/◌, ◌%◌, ◌^◌, ◌<◌, ◌≤◌, ◌==◌, zero, suc, refl, sym, ap, subst, ◌∙◌, arith}
use Rattle.std.specs.Prelude.{nat_le}
use Rattle.std.specs.Int.{from_bool}
use Rattle.std.proofs.Math.Nat.{div-eq_of_lt, mod-eq_of_lt, mod-lt, pow-le-pow_right}
use Rattle.std.proofs.lemmas.Bool.Decides.{nat_tests}
use Rattle.std.proofs.lemmas.Nat.{div-add-mod', div-mul-add, div_below, mod-mul-add, mul-add-lt, pow-add, pow_pos}
use Rattle.m68_alu.proofs.Zeros.{halves}

-- the lower part has q values and the upper one p; the lower one comes to stand above
abbrev pub turned : ℕ → ℕ → ℕ → ℕ
turned v p q = v % q * p + v / q

pub turned-below : (v p q : ℕ) → 0 < q → v < p * q → turned v p q < p * q
turned-below v p q some small = mul-add-lt (v % q) p (v / q) q (mod-lt v some) (div_below v q p some small)

-- where the two parts have k bits and the rest of w
pub turned-within : (w k v : ℕ) → k ≤ w → v < 2 ^ w → turned v (2 ^ k) (2 ^ (w - k)) < 2 ^ w
turned-within w k v few small =
    let total : k + (w - k) ≡ w = omega (arith, few) in
    let all : 2 ^ k * 2 ^ (w - k) ≡ 2 ^ w = sym (pow-add 2 k (w - k)) ∙ ap (λ n. 2 ^ n) total in
    subst (λ n. turned v (2 ^ k) (2 ^ (w - k)) < n) all (turned-below v (2 ^ k) (2 ^ (w - k)) (pow_pos (w - k)) (subst (λ n. v < n) (sym all) small))

-- in a number of 64 bits
pub turned-long : (w k v : ℕ) → w ≤ 33 → k ≤ w → v < 2 ^ w → turned v (2 ^ k) (2 ^ (w - k)) < 2 ^ 64
turned-long w k v near few small =
    let most : 2 ^ w ≤ 2 ^ 33 = pow-le-pow_right (omega arith) near in
    let within : turned v (2 ^ k) (2 ^ (w - k)) < 2 ^ w = turned-within w k v few small in
    omega (arith, within, most)

-- nothing is turned where a part has one value
pub all-lower : (v m : ℕ) → v < m → turned v 1 m ≡ v
all-lower v m small = rw (mod-eq_of_lt small, div-eq_of_lt small) (omega arith)

pub all-upper : (v p : ℕ) → turned v p 1 ≡ v
all-upper v p = let none : v % 1 ≡ 0 = omega arith in rw none (omega arith)

-- a bit over a part of q values
pair-below : (t l q : ℕ) → t < 2 → l < q → t * q + l < 2 * q
pair-below zero l q two small = omega (arith, small)
pair-below (suc zero) l q two small = omega (arith, small)
pair-below (suc (suc t)) l q two small = absurd (omega (arith, two))

parts : (a h t q l : ℕ) → a ≡ 2 * h + t → a * q + l ≡ h * (2 * q) + (t * q + l)
parts a h t q l is = rw is (omega arith)

lower : (v q : ℕ) → 0 < q → v % (2 * q) ≡ v / q % 2 * q + v % q
lower v q some =
    let small : v / q % 2 * q + v % q < 2 * q = pair-below (v / q % 2) (v % q) q (mod-lt (v / q) (omega arith)) (mod-lt v some) in
    let halved : v / q ≡ 2 * (v / q / 2) + v / q % 2 = omega arith in
    let split : v ≡ v / q / 2 * (2 * q) + (v / q % 2 * q + v % q) = sym (div-add-mod' v q) ∙ parts (v / q) (v / q / 2) (v / q % 2) q (v % q) halved in
    ap (λ n. n % (2 * q)) split ∙ mod-mul-add (v / q / 2) (2 * q) (v / q % 2 * q + v % q) small

-- the bit t between the parts h and l, which is the top one of the number before and the lowest one behind
abbrev before : ℕ → ℕ → ℕ → ℕ → ℕ → ℕ
before h t l p q = (t * q + l) * p + h

abbrev behind : ℕ → ℕ → ℕ → ℕ → ℕ
behind h t l p = l * (2 * p) + (2 * h + t)

turned-before : (v p q : ℕ) → 0 < q → turned v p (2 * q) ≡ before (v / q / 2) (v / q % 2) (v % q) p q
turned-before v p q some = rw (lower v q some, halves v q) refl

turned-behind : (v p q : ℕ) → turned v (2 * p) q ≡ behind (v / q / 2) (v / q % 2) (v % q) p
turned-behind v p q = let halved : v / q ≡ 2 * (v / q / 2) + v / q % 2 = omega arith in ap (λ n. v % q * (2 * p) + n) halved

low-below : (h l p q : ℕ) → l < q → h < p → l * p + h < p * q
low-below h l p q l-small h-small = mul-add-lt l p h q l-small h-small

behind-below : (h t l p q : ℕ) → t < 2 → l < q → h < p → behind h t l p < 2 * (p * q)
behind-below h t l p q two l-small h-small =
    let high : 2 * h + t < 2 * p = omega (arith, two, h-small) in
    let all : l * (2 * p) + (2 * h + t) < 2 * p * q = mul-add-lt l (2 * p) (2 * h + t) q l-small high in
    omega (arith, all)

top-bit : (h t l p q : ℕ) → t < 2 → l < q → h < p → nat_le (p * q) (before h t l p q) ≡ (t == 1)
top-bit h zero l p q two l-small h-small =
    let same : before h 0 l p q ≡ l * p + h = omega arith in
    let small : l * p + h < p * q = low-below h l p q l-small h-small in
    rw same (grind (arith, nat_tests, small))
top-bit h (suc zero) l p q two l-small h-small =
    let same : before h 1 l p q ≡ p * q + (l * p + h) = omega arith in
    rw same (grind (arith, nat_tests))
top-bit h (suc (suc t)) l p q two l-small h-small = absurd (omega (arith, two))

bit-back : (t : ℕ) → t < 2 → from_bool (t == 1) ≡ t
bit-back zero two = refl
bit-back (suc zero) two = refl
bit-back (suc (suc t)) two = absurd (omega (arith, two))

low-bit : (h t l p : ℕ) → t < 2 → behind h t l p % 2 ≡ t
low-bit h t l p two =
    let same : behind h t l p ≡ (l * p + h) * 2 + t = omega arith in ap (λ n. n % 2) same ∙ mod-mul-add (l * p + h) 2 t two

without-low-bit : (h t l p : ℕ) → t < 2 → behind h t l p / 2 ≡ l * p + h
without-low-bit h t l p two =
    let same : behind h t l p ≡ (l * p + h) * 2 + t = omega arith in ap (λ n. n / 2) same ∙ div-mul-add (l * p + h) 2 t two

up : (h t l p q : ℕ) → t < 2 → l < q → h < p → (2 * before h t l p q + t) % (2 * (p * q)) ≡ behind h t l p
up h t l p q two l-small h-small =
    let same : 2 * before h t l p q + t ≡ t * (2 * (p * q)) + behind h t l p = omega arith in
    ap (λ n. n % (2 * (p * q))) same ∙ mod-mul-add t (2 * (p * q)) (behind h t l p) (behind-below h t l p q two l-small h-small)

down : (h t l p q : ℕ) → t < 2 → behind h t l p / 2 + t * (p * q) ≡ before h t l p q
down h t l p q two = rw (without-low-bit h t l p two) (omega arith)

upper-below : (v p q : ℕ) → 0 < q → v < 2 * (p * q) → v / q / 2 < p
upper-below v p q some small =
    let within : v < p * (2 * q) = omega (arith, small) in rw (← halves v q) (div_below v (2 * q) p (omega (arith, some)) within)

two-values : (v : ℕ) → v % 2 < 2
two-values v = mod-lt v (omega arith)

-- the bit that goes out at the top comes in at the bottom
pub bit_over : (v p q : ℕ) → 0 < q → v < 2 * (p * q) → nat_le (p * q) (turned v p (2 * q)) ≡ (turned v (2 * p) q % 2 == 1)
bit_over v p q some small =
    let t = v / q % 2 in
    let top : nat_le (p * q) (turned v p (2 * q)) ≡ (t == 1) = rw (turned-before v p q some) (top-bit (v / q / 2) t (v % q) p q (two-values (v / q)) (mod-lt v some) (upper-below v p q some small)) in
    let low : turned v (2 * p) q % 2 ≡ t = rw (turned-behind v p q) (low-bit (v / q / 2) t (v % q) p (two-values (v / q))) in
    top ∙ ap (λ n. n == 1) (sym low)

-- one bit to the left
pub up_once : (v p q : ℕ) → 0 < q → v < 2 * (p * q) → (2 * turned v p (2 * q) + from_bool (nat_le (p * q) (turned v p (2 * q)))) % (2 * (p * q)) ≡ turned v (2 * p) q
up_once v p q some small =
    let h = v / q / 2 in
    let t = v / q % 2 in
    let h-small : v / q / 2 < p = upper-below v p q some small in
    let bit : from_bool (nat_le (p * q) (before (v / q / 2) (v / q % 2) (v % q) p q)) ≡ v / q % 2 =
    ap from_bool (top-bit h t (v % q) p q (two-values (v / q)) (mod-lt v some) h-small) ∙ bit-back t (two-values (v / q)) in
    rw (turned-before v p q some, turned-behind v p q, bit) (up h t (v % q) p q (two-values (v / q)) (mod-lt v some) h-small)

-- one bit to the right
pub down_once : (v p q : ℕ) → 0 < q → turned v (2 * p) q / 2 + from_bool (turned v (2 * p) q % 2 == 1) * (p * q) ≡ turned v p (2 * q)
down_once v p q some =
    let h = v / q / 2 in
    let t = v / q % 2 in
    let bit : from_bool (behind (v / q / 2) (v / q % 2) (v % q) p % 2 == 1) ≡ v / q % 2 =
    ap (λ n. from_bool (n == 1)) (low-bit h t (v % q) p (two-values (v / q))) ∙ bit-back t (two-values (v / q)) in
    rw (turned-before v p q some, turned-behind v p q, bit) (down h t (v % q) p q (two-values (v / q)))
