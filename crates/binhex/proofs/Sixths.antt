-- Bytes in groups of three, and the symbols of their bits.
use Rattle.std.proofs.Common.{◌≡◌, ◌∙◌, ap, sym, subst, refl, ℕ, zero, suc, ◌+◌, ◌-◌, ◌*◌, ◌/◌, ◌%◌, ◌^◌, ◌<◌, ◌==◌, ◌&&◌, Bool, true, false, List, [], ◌∷◌, ◌++◌, length, map, Option, Some, None, arith}
use Rattle.std.specs.Prelude.{slice_index}
use Rattle.std.proofs.lemmas.Bool.Decides.{nat_tests}
use Rattle.binhex.specs.Packing.{byte_at, bytes_below, bytes_of}
use Rattle.binhex.specs.Text.{alphabet, symbol_of, symbols_of}
use Rattle.binhex.specs.laws.Sixths.{AreBytes, GivesBackText, sixths}

-- a byte behind the first three
byte-behind : (s t u v : ℕ) (rest : List ℕ) (n : ℕ) → byte_at (s ∷ (t ∷ (u ∷ (v ∷ rest)))) (suc (suc (suc n))) ≡ byte_at rest n
byte-behind s t u v rest n =
    let xs : List ℕ = s ∷ (t ∷ (u ∷ (v ∷ rest))) in
    let place : suc (suc (suc n)) + suc (suc (suc n)) / 3 ≡ suc (suc (suc (suc (n + n / 3)))) = omega arith in
    let next : suc (suc (suc n)) + suc (suc (suc n)) / 3 + 1 ≡ suc (suc (suc (suc (n + n / 3 + 1)))) = omega arith in
    let twos : suc (suc (suc n)) % 3 ≡ n % 3 = omega arith in
    ap (λ (p : ℕ). (slice_index xs p * 64 + slice_index xs (suc (suc (suc n)) + suc (suc (suc n)) / 3 + 1)) / 4 ^ (2 - suc (suc (suc n)) % 3) % 256) place
    ∙ (ap (λ (p : ℕ). (slice_index rest (n + n / 3) * 64 + slice_index xs p) / 4 ^ (2 - suc (suc (suc n)) % 3) % 256) next
    ∙ ap (λ (m : ℕ). (slice_index rest (n + n / 3) * 64 + slice_index rest (n + n / 3 + 1)) / 4 ^ (2 - m) % 256) twos)

bytes-behind : (s t u v : ℕ) (rest : List ℕ) (n : ℕ)
    → bytes_below (s ∷ (t ∷ (u ∷ (v ∷ rest)))) (suc (suc (suc n)))
    ≡ (s * 64 + t) / 16 % 256 ∷ ((t * 64 + u) / 4 % 256 ∷ ((u * 64 + v) / 1 % 256 ∷ bytes_below rest n))
bytes-behind s t u v rest zero = refl
bytes-behind s t u v rest (suc n) =
    ap (λ xs. xs ++ byte_at (s ∷ (t ∷ (u ∷ (v ∷ rest)))) (suc (suc (suc n))) ∷ []) (bytes-behind s t u v rest n)
    ∙ ap (λ byte. (s * 64 + t) / 16 % 256 ∷ ((t * 64 + u) / 4 % 256 ∷ ((u * 64 + v) / 1 % 256 ∷ (bytes_below rest n ++ byte ∷ [])))) (byte-behind s t u v rest n)

-- how many bytes four symbols more have
count-behind : (m : ℕ) → suc (suc (suc (suc m))) - (suc (suc (suc (suc m))) + 3) / 4 ≡ suc (suc (suc (m - (m + 3) / 4)))
count-behind m = omega arith

first-byte : (a more : ℕ) → a < 256 → more < 16 → (a / 4 * 64 + (a % 4 * 16 + more)) / 16 % 256 ≡ a
first-byte a more small few = omega (arith, small, few)

second-byte : (front b more : ℕ) → b < 256 → more < 4 → ((front * 16 + b / 16) * 64 + (b % 16 * 4 + more)) / 4 % 256 ≡ b
second-byte front b more small few = omega (arith, small, few)

third-byte : (front c : ℕ) → c < 256 → ((front * 4 + c / 64) * 64 + c % 64) / 1 % 256 ≡ c
third-byte front c small = omega (arith, small)

three : {a b c x y z : ℕ} {xs ys : List ℕ} → a ≡ x → b ≡ y → c ≡ z → xs ≡ ys → a ∷ (b ∷ (c ∷ xs)) ≡ x ∷ (y ∷ (z ∷ ys))
three is is_next is_third rest = cc

pub given-back : (bytes : List ℕ) → AreBytes bytes → bytes_of (sixths bytes) ≡ bytes
given-back [] are = refl
given-back (a ∷ []) are =
    let small : a < 256 = are.0 in
    let byte : (a / 4 * 64 + a % 4 * 16) / 16 % 256 ≡ a = omega (arith, small) in
    ap (λ x. x ∷ []) byte
given-back (a ∷ (b ∷ [])) are =
    let first : (a / 4 * 64 + (a % 4 * 16 + b / 16)) / 16 % 256 ≡ a = first-byte a (b / 16) are.0 (omega (arith, are.1.0)) in
    let small : b < 256 = are.1.0 in
    let second : ((a % 4 * 16 + b / 16) * 64 + b % 16 * 4) / 4 % 256 ≡ b = omega (arith, small) in
    ap (λ x. x ∷ ((a % 4 * 16 + b / 16) * 64 + b % 16 * 4) / 4 % 256 ∷ []) first ∙ ap (λ y. a ∷ (y ∷ [])) second
given-back (a ∷ (b ∷ (c ∷ bytes))) are =
    let few : b / 16 < 16 = omega (arith, are.1.0) in
    let fewer : c / 64 < 4 = omega (arith, are.1.1.0) in
    ap (bytes_below (sixths (a ∷ (b ∷ (c ∷ bytes))))) (count-behind (length (sixths bytes)))
    ∙ (bytes-behind (a / 4) (a % 4 * 16 + b / 16) (b % 16 * 4 + c / 64) (c % 64) (sixths bytes) (length (sixths bytes) - (length (sixths bytes) + 3) / 4)
    ∙ three (first-byte a (b / 16) are.0 few) (second-byte (a % 4) b (c / 64) are.1.0 fewer) (third-byte (b % 16) c are.1.1.0) (given-back bytes are.1.1.1))

-- the symbols have the numbers of their places
abbrev is_at : Option ℕ → ℕ → Bool
is_at None n = false
is_at (Some m) n = m == n

all_below : ℕ → (ℕ → Bool) → Bool
all_below zero test = true
all_below (suc n) test = test n && all_below n test

holds-below : (n k : ℕ) (test : ℕ → Bool) → all_below n test ≡ true → k < n → test k ≡ true
unfolding all_below
holds-below zero k test all lt = absurd (omega (arith, lt))
holds-below (suc n) k test all lt = by (k == n) refl (both (test n) (all_below n test) all) (λ rest less. holds-below n k test rest less)
  where
    both : (b c : Bool) → (b && c) ≡ true → (b ≡ true) × (c ≡ true)
    both true c is = (refl, is)
    both false c is = absurd (cc)

    by : (b : Bool) → (k == n) ≡ b → (test n ≡ true) × (all_below n test ≡ true) → (all_below n test ≡ true → k < n → test k ≡ true) → test k ≡ true
    by true q holds earlier = let same : k ≡ n = grind (arith, nat_tests) in subst (λ (m : ℕ). test m ≡ true) (sym same) holds.0
    by false q holds earlier = earlier holds.1 (grind (arith, nat_tests))

at-is : (o : Option ℕ) (n : ℕ) → is_at o n ≡ true → o ≡ Some n
at-is None n is = cc
at-is (Some m) n is = let same : m ≡ n = grind (arith, nat_tests) in ap Some same

all-known : all_below 64 (λ n. is_at (symbol_of (slice_index alphabet n)) n) ≡ true
unfolding all_below
all-known = refl

symbol-known : (n : ℕ) → n < 64 → symbol_of (slice_index alphabet n) ≡ Some n
symbol-known n small = at-is (symbol_of (slice_index alphabet n)) n (holds-below 64 n (λ k. is_at (symbol_of (slice_index alphabet k)) k) all-known small)

abbrev AreSymbols : List ℕ → Type 0
AreSymbols [] = Unit {0}
AreSymbols (n ∷ ns) = (n < 64) × AreSymbols ns

are-symbols : (bytes : List ℕ) → AreBytes bytes → AreSymbols (sixths bytes)
are-symbols [] are = tt
are-symbols (a ∷ []) are = (omega (arith, are.0), (omega arith, tt))
are-symbols (a ∷ (b ∷ [])) are = (omega (arith, are.0), (omega (arith, are.1.0), (omega arith, tt)))
are-symbols (a ∷ (b ∷ (c ∷ bytes))) are =
    (omega (arith, are.0), (omega (arith, are.1.0), (omega (arith, are.1.1.0), (omega arith, are-symbols bytes are.1.1.1))))

symbols-back : (ns : List ℕ) → AreSymbols ns → symbols_of (map (λ number. slice_index alphabet number) ns) ≡ ns
symbols-back [] are = refl
symbols-back (n ∷ ns) are = rw (symbol-known n are.0) (ap (λ xs. n ∷ xs) (symbols-back ns are.1))

pub text-back : GivesBackText
text-back bytes are = ap bytes_of (symbols-back (sixths bytes) (are-symbols bytes are)) ∙ given-back bytes are
