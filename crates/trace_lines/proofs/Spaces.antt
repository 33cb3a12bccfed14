-- The first space of a text.
use Rattle.std.proofs.Common.{◌≡◌, ℕ, suc, ◌+◌, ◌-◌, ◌==◌, ◌<◌, ◌≤◌, List, [], ◌∷◌, ◌++◌, length, take, drop, cond, Bool, true, false, Some, None, refl, ap, subst, sym, ◌∙◌, arith}
use Rattle.std.specs.Char.{digit_value}
use Rattle.std.specs.List.{position_from}
use Rattle.std.specs.Str.Parse.{AllDigits}
use Rattle.std.proofs.lemmas.Bool.{eqb-true}

no-space-by : (x : ℕ) (t : Bool) → (x == 32) ≡ t → digit_value x < 10 → (x == 32) ≡ false
no-space-by x true q digit =
    let space : x ≡ 32 = eqb-true x 32 q in
    let no : 36 < 10 = subst (λ c. digit_value c < 10) space digit in
    absurd (omega (arith, no))
no-space-by x false q digit = q

pub space-written : (xs rest : List ℕ) (i : ℕ) → AllDigits 10 xs → position_from (λ b. b == 32) i (xs ++ (32 ∷ rest)) ≡ Some (i + length xs)
space-written [] rest i digits = let e : i ≡ i + 0 = omega arith in ap Some e
space-written (x ∷ xs) rest i digits =
    let first : (x == 32) ≡ false = no-space-by x (x == 32) refl digits.0 in
    let more : position_from (λ b. b == 32) (i + 1) (xs ++ (32 ∷ rest)) ≡ Some (i + 1 + length xs) = space-written xs rest (i + 1) digits.1 in
    let e : i + 1 + length xs ≡ i + suc (length xs) = omega arith in
    rw first (more ∙ ap Some e)

-- a text up to its first space, and what stands behind that
pub record IsSplit (i k : ℕ) (xs : List ℕ) : Type 0 where
  pub above : i ≤ k
  pub split : xs ≡ take (k - i) xs ++ (32 ∷ drop (suc (k - i)) xs)

split-by : (i k x : ℕ) (xs : List ℕ) (t : Bool) → (x == 32) ≡ t → cond t (Some i) (position_from (λ b. b == 32) (i + 1) xs) ≡ Some k
    → (position_from (λ b. b == 32) (i + 1) xs ≡ Some k → IsSplit (i + 1) k xs) → IsSplit i k (x ∷ xs)
split-by i k x xs true q is more =
    let same : i ≡ k = (let h : Some i ≡ Some k = is in cc) in
    let nothing : k - i ≡ 0 = omega arith in
    let space : x ≡ 32 = eqb-true x 32 q in
    record {
      above = omega arith;
      split = subst (λ n. x ∷ xs ≡ take n (x ∷ xs) ++ (32 ∷ drop (suc n) (x ∷ xs))) (sym nothing) (ap (λ y. y ∷ xs) space);
    }
split-by i k x xs false q is more =
    let told = more is in
    let above = told.above in
    let next : k - i ≡ suc (k - (i + 1)) = omega arith in
    record {
      above = omega arith;
      split = subst (λ n. x ∷ xs ≡ take n (x ∷ xs) ++ (32 ∷ drop (suc n) (x ∷ xs))) (sym next) (ap (λ ys. x ∷ ys) told.split);
    }

pub space-read : (xs : List ℕ) (i k : ℕ) → position_from (λ b. b == 32) i xs ≡ Some k → IsSplit i k xs
space-read [] i k is = absurd (let no : None ≡ Some k = is in cc)
space-read (x ∷ xs) i k is = split-by i k x xs (x == 32) refl is (space-read xs (i + 1) k)
