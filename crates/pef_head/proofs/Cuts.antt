-- The first bytes of a name, of which only these are looked at.
use Rattle.std.proofs.Common.{◌≡◌, ◌∙◌, sym, ap, refl, ℕ, zero, suc, ◌+◌, ◌≤◌, Bool, true, false, cond, nat_lt, min, List, [], ◌∷◌, length, take, Option, Some, None, arith}
use Rattle.std.proofs.lemmas.List.{same_lists, places}
use Rattle.std.proofs.lemmas.Bool.Decides.{nat_tests}
use Rattle.std.specs.List.{position, position_or_len}
use Rattle.std.specs.Option.{option_map_or}

module _ (test : ℕ → Bool) where
  -- the elements before the first that passes
  abbrev before : List ℕ → List ℕ
  before xs = option_map_or (λ n. take n xs) (position test xs) xs

  take_past : (n : ℕ) (xs : List ℕ) → length xs ≤ n → take n xs ≡ xs
  take_past n xs le = same_lists _ _ (grind (arith, places)) (λ k d w. grind (arith, places))

  before_is : (xs : List ℕ) → before xs ≡ take (position_or_len test xs) xs
  before_is xs = by (nat_lt (position_or_len test xs) (length xs)) refl
    where
      by : (b : Bool) → nat_lt (position_or_len test xs) (length xs) ≡ b
          → option_map_or (λ n. take n xs) (cond b (Some (position_or_len test xs)) None) xs ≡ take (position_or_len test xs) xs
      by true q = refl
      by false q = sym (take_past (position_or_len test xs) xs (grind (arith, nat_tests)))

  take_one : (n x : ℕ) (xs : List ℕ) → take (1 + n) (x ∷ xs) ≡ x ∷ take n xs
  take_one n x xs = let more : 1 + n ≡ suc n = omega arith in rw more refl

  cut_first : (most : ℕ) (xs : List ℕ) → take (position_or_len test (take most xs)) (take most xs) ≡ take most (take (position_or_len test xs) xs)
  cut_first zero xs = refl
  cut_first (suc most) [] = refl
  cut_first (suc most) (x ∷ xs) = by (test x) refl (cut_first most xs)
    where
      by : (b : Bool) → test x ≡ b → take (position_or_len test (take most xs)) (take most xs) ≡ take most (take (position_or_len test xs) xs)
          → take (position_or_len test (take (suc most) (x ∷ xs))) (take (suc most) (x ∷ xs)) ≡ take (suc most) (take (position_or_len test (x ∷ xs)) (x ∷ xs))
      by true q rest = rw q refl
      by false q rest =
          rw q (take_one (position_or_len test (take most xs)) x (take most xs)
          ∙ (ap (λ (ys : List ℕ). x ∷ ys) rest ∙ ap (take (suc most)) (sym (take_one (position_or_len test xs) x xs))))

  pub before_cut : (most : ℕ) (xs : List ℕ) → before (take most xs) ≡ take most (before xs)
  before_cut most xs = before_is (take most xs) ∙ (cut_first most xs ∙ ap (take most) (sym (before_is xs)))

  take_min : (most : ℕ) (xs : List ℕ) → take (min (length xs) most) xs ≡ take most xs
  take_min most xs = same_lists _ _ (grind (arith, places)) (λ k d w. grind (arith, places))

  -- where the first that passes is found among the first elements, or none is
  pub cut_some : (most n len : ℕ) (found : Option ℕ) (xs : List ℕ) → n ≡ min (length xs) most → found ≡ position test (take n xs) → found ≡ Some len
      → take len (take n xs) ≡ take most (before xs)
  cut_some most n len found xs n_is found_is some =
      let first : take n xs ≡ take most xs = ap (λ (k : ℕ). take k xs) n_is ∙ take_min most xs in
      ap (λ (o : Option ℕ). option_map_or (λ k. take k (take n xs)) o (take n xs)) (sym some ∙ found_is) ∙ (ap before first ∙ before_cut most xs)

  pub cut_none : (most n : ℕ) (found : Option ℕ) (xs : List ℕ) → n ≡ min (length xs) most → found ≡ position test (take n xs) → found ≡ None
      → take n xs ≡ take most (before xs)
  cut_none most n found xs n_is found_is none =
      let first : take n xs ≡ take most xs = ap (λ (k : ℕ). take k xs) n_is ∙ take_min most xs in
      ap (λ (o : Option ℕ). option_map_or (λ k. take k (take n xs)) o (take n xs)) (sym none ∙ found_is) ∙ (ap before first ∙ before_cut most xs)
