-- Lists of a number for each of the first ones.
use Rattle.std.proofs.Common.{◌≡◌, subst, refl, ◌∙◌, ℕ, zero, suc, ◌<◌, Bool, true, false, nat_lt, [], ◌∷◌, ◌++◌, length, get_or, arith}
use Rattle.std.proofs.lemmas.List.{get_or_append_left, get_or_at, length_push}
use Rattle.std.proofs.lemmas.Bool.Decides.{nat_tests}
use Rattle.mix_load.specs.Pieces.{numbered}

pub numbered-length : (f : ℕ → ℕ) (n : ℕ) → length (numbered f n) ≡ n
numbered-length f zero = refl
numbered-length f (suc n) = omega (arith, length_push (numbered f n) (f n), numbered-length f n)

pub numbered-at : (f : ℕ → ℕ) (n k d : ℕ) → k < n → get_or (numbered f n) k d ≡ f k
numbered-at f zero k d lt = absurd (omega arith)
numbered-at f (suc n) k d lt = by (nat_lt k n) refl (λ h. numbered-at f n k d h)
  where
    by : (b : Bool) → nat_lt k n ≡ b → (k < n → get_or (numbered f n) k d ≡ f k) → get_or (numbered f n ++ f n ∷ []) k d ≡ f k
    by true q earlier =
        let h : k < n = grind (arith, nat_tests) in
        get_or_append_left (numbered f n) (f n ∷ []) d k (omega (arith, numbered-length f n)) ∙ earlier h
    by false q earlier =
        let same : n ≡ k = grind (arith, nat_tests) in
        subst (λ (m : ℕ). get_or (numbered f n ++ f n ∷ []) m d ≡ f m) same (get_or_at (numbered f n) (f n) [] d n (numbered-length f n))
