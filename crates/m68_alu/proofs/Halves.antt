-- Sums and differences of signed numbers by the modulus and the half of a size, as variables.
use Rattle.std.proofs.Common.{ℕ, ◌≡◌, ◌≢◌, ◌<◌, ◌≤◌, ◌+◌, ◌*◌, ◌-◌, ◌%◌, ◌⊎◌, inl, inr, ◌+ℤ◌, ◌-ℤ◌, pos, Bool, true, false, refl, sym, ap, ◌∙◌, arith}
use Rattle.std.specs.Int.{from_bool}
use Rattle.std.proofs.Math.Nat.{mod-eq_of_lt, mod-eq-sub-mod}
use Rattle.std.proofs.lemmas.Bool.{cases_lt}
use Rattle.std.proofs.lemmas.Bool.Decides.{nat_tests}
use Rattle.std.proofs.lemmas.Int.{ints}
use Rattle.mix_bits.specs.declared.size.Size.{Size}
use Rattle.mix_bits.specs.declared.size.Size.TheVariants.{Zero, One, Two, Four}
use Rattle.mix_bits.specs.Sizes.{modulus, signed_below, signed_of}
use Rattle.mix_bits.specs.Signs.{half, leaves_half}
use Rattle.m68_alu.specs.Sums.{difference_value, sum_value}

pub twice : (s : Size) → s ≢ Zero → modulus s ≡ 2 * half s
twice Zero some = absurd (some refl)
twice One some = refl
twice Two some = refl
twice Four some = refl

-- below twice the modulus, a number is cut by it once at most
pub cut : (m n : ℕ) → n < 2 * m → (n ≡ n % m) ⊎ (n ≡ n % m + m)
cut m n small =
    elim (cases_lt n m) [
      | inl under ↦ inl (sym (mod-eq_of_lt under))
      | inr over ↦ let rest : n % m ≡ n - m = mod-eq-sub-mod over ∙ mod-eq_of_lt (omega arith) in inr (omega arith)
    ]

pub below : (s : Size) (n : ℕ) → s ≢ Zero → n % modulus s < modulus s
below Zero n some = absurd (some refl)
below One n some = omega arith
below Two n some = omega arith
below Four n some = omega arith

pub whole : (s : Size) (v : ℕ) → v < modulus s → signed_of v s ≡ signed_below (modulus s) v
whole s v small = ap (signed_below (modulus s)) (mod-eq_of_lt small)

pub bit : (b : Bool) → from_bool b ≤ 1
bit true = omega arith
bit false = omega arith

-- the signed number of a value is one of its size
pub inside : (m h v : ℕ) → m ≡ 2 * h → v < m → leaves_half h (signed_below m v) ≡ false
inside m h v twice low = grind (arith, nat_tests, ints)

sum_stays_within : (m h d r c v : ℕ) → m ≡ 2 * h → d < m → r < m → v < m → c ≤ 1 → d + (r + c) ≡ v
    → leaves_half h (signed_below m d +ℤ (signed_below m r +ℤ pos c)) ≡ false → signed_below m v ≡ signed_below m d +ℤ (signed_below m r +ℤ pos c)
sum_stays_within m h d r c v twice low high left one is stays = grind (arith, nat_tests, ints)

sum_stays_past : (m h d r c v : ℕ) → m ≡ 2 * h → d < m → r < m → v < m → c ≤ 1 → d + (r + c) ≡ v + m
    → leaves_half h (signed_below m d +ℤ (signed_below m r +ℤ pos c)) ≡ false → signed_below m v ≡ signed_below m d +ℤ (signed_below m r +ℤ pos c)
sum_stays_past m h d r c v twice low high left one is stays = grind (arith, nat_tests, ints)

pub sum_stays : (m h d r c v : ℕ) → m ≡ 2 * h → d < m → r < m → v < m → c ≤ 1 → (d + (r + c) ≡ v) ⊎ (d + (r + c) ≡ v + m)
    → leaves_half h (signed_below m d +ℤ (signed_below m r +ℤ pos c)) ≡ false → signed_below m v ≡ signed_below m d +ℤ (signed_below m r +ℤ pos c)
sum_stays m h d r c v twice low high left one (inl is) = sum_stays_within m h d r c v twice low high left one is
sum_stays m h d r c v twice low high left one (inr is) = sum_stays_past m h d r c v twice low high left one is

difference_stays_within : (m h d r c v : ℕ) → m ≡ 2 * h → d < m → r < m → v < m → c ≤ 1 → v + (r + c) ≡ d
    → leaves_half h (signed_below m d -ℤ (signed_below m r +ℤ pos c)) ≡ false → signed_below m v ≡ signed_below m d -ℤ (signed_below m r +ℤ pos c)
difference_stays_within m h d r c v twice low high left one is stays = grind (arith, nat_tests, ints)

difference_stays_past : (m h d r c v : ℕ) → m ≡ 2 * h → d < m → r < m → v < m → c ≤ 1 → v + (r + c) ≡ d + m
    → leaves_half h (signed_below m d -ℤ (signed_below m r +ℤ pos c)) ≡ false → signed_below m v ≡ signed_below m d -ℤ (signed_below m r +ℤ pos c)
difference_stays_past m h d r c v twice low high left one is stays = grind (arith, nat_tests, ints)

pub difference_stays : (m h d r c v : ℕ) → m ≡ 2 * h → d < m → r < m → v < m → c ≤ 1 → (v + (r + c) ≡ d) ⊎ (v + (r + c) ≡ d + m)
    → leaves_half h (signed_below m d -ℤ (signed_below m r +ℤ pos c)) ≡ false → signed_below m v ≡ signed_below m d -ℤ (signed_below m r +ℤ pos c)
difference_stays m h d r c v twice low high left one (inl is) = difference_stays_within m h d r c v twice low high left one is
difference_stays m h d r c v twice low high left one (inr is) = difference_stays_past m h d r c v twice low high left one is

taken_within : (m h d r c v : ℕ) → m ≡ 2 * h → d < m → r < m → v < m → c ≤ 1 → v + (r + c) ≡ d
    → leaves_half h (signed_below m v +ℤ (signed_below m r +ℤ pos c)) ≡ leaves_half h (signed_below m d -ℤ (signed_below m r +ℤ pos c))
taken_within m h d r c v twice low high left one is = grind (arith, nat_tests, ints)

taken_past : (m h d r c v : ℕ) → m ≡ 2 * h → d < m → r < m → v < m → c ≤ 1 → v + (r + c) ≡ d + m
    → leaves_half h (signed_below m v +ℤ (signed_below m r +ℤ pos c)) ≡ leaves_half h (signed_below m d -ℤ (signed_below m r +ℤ pos c))
taken_past m h d r c v twice low high left one is = grind (arith, nat_tests, ints)

pub taken : (m h d r c v : ℕ) → m ≡ 2 * h → d < m → r < m → v < m → c ≤ 1 → (v + (r + c) ≡ d) ⊎ (v + (r + c) ≡ d + m)
    → leaves_half h (signed_below m v +ℤ (signed_below m r +ℤ pos c)) ≡ leaves_half h (signed_below m d -ℤ (signed_below m r +ℤ pos c))
taken m h d r c v twice low high left one (inl is) = taken_within m h d r c v twice low high left one is
taken m h d r c v twice low high left one (inr is) = taken_past m h d r c v twice low high left one is

-- the values that are cut
pub sum_is : (s : Size) (d r : ℕ) (c : Bool) → s ≢ Zero → d < modulus s → r < modulus s
    → (d + (r + from_bool c) ≡ sum_value s d r c) ⊎ (d + (r + from_bool c) ≡ sum_value s d r c + modulus s)
sum_is s d r c some low high = let one : from_bool c ≤ 1 = bit c in cut (modulus s) (d + (r + from_bool c)) (omega arith)

pub difference_is : (s : Size) (d r : ℕ) (c : Bool) → s ≢ Zero → d < modulus s → r < modulus s
    → (difference_value s d r c + (r + from_bool c) ≡ d) ⊎ (difference_value s d r c + (r + from_bool c) ≡ d + modulus s)
difference_is s d r c some low high =
    let one : from_bool c ≤ 1 = bit c in
    let n = d + modulus s - (r + from_bool c) in
    elim (cut (modulus s) n (omega arith)) [ inl is ↦ inr (omega arith) | inr is ↦ inl (omega arith) ]
