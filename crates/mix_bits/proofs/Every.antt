-- What a test of a whole range says of one number.
use Rattle.std.proofs.Common.{◌≡◌, inl, inr, ℕ, zero, suc, ◌+◌, ◌*◌, ◌^◌, ◌<◌, ◌≤◌, Bool, true, arith, subst, refl}
use Rattle.std.proofs.Math.Nat.{pow-suc}
use Rattle.std.proofs.lemmas.Bool.{cases_lt}
use Rattle.mix_bits.specs.laws.Ranges.{every}
use Rattle.mix_bits.specs.laws.Laws.{HoldsOfEach}
use Rattle.mix_bits.proofs.Conditions.{both}

-- twice as many numbers: those of the lower half and those of the upper half
halves : (m base n : ℕ) (P : Type 0) → (m * (base * 2) ≤ n → n < m * (base * 2 + 1) → P) → (m * (base * 2 + 1) ≤ n → n < m * (base * 2 + 2) → P) → m * 2 * base ≤ n → n < m * 2 * (base + 1) → P
halves m base n P lower upper from to =
    elim (cases_lt n (m * (base * 2 + 1))) [ inl below ↦ lower (grind (arith, from)) below | inr above ↦ upper above (grind (arith, to)) ]

-- a test that holds of a whole range holds of each number in it
pub every_within : (k base : ℕ) (p : ℕ → Bool) (n : ℕ) → every k base p ≡ true → 2 ^ k * base ≤ n → n < 2 ^ k * (base + 1) → p n ≡ true
every_within zero base p n holds from to =
    let same : base ≡ n = omega (arith, from, to) in subst (λ m. p m ≡ true) same holds
every_within (suc k) base p n holds from to =
    let parts = both (every k (base * 2) p) (every k (base * 2 + 1) p) holds in
    halves (2 ^ k) base n (p n ≡ true)
    (λ low high. every_within k (base * 2) p n parts.0 low high)
    (λ low high. every_within k (base * 2 + 1) p n parts.1 low (omega (arith, high)))
    (subst (λ m. m * base ≤ n) (pow-suc 2 k) from)
    (subst (λ m. n < m * (base + 1)) (pow-suc 2 k) to)

pub every_at : HoldsOfEach
every_at k p n holds below = every_within k 0 p n holds (omega arith) (omega (arith, below))
