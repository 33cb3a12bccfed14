-- What is left behind a run.
use Rattle.std.proofs.Common.{◌≡◌, ◌∙◌, ap, sym, refl, ℕ, zero, suc, ◌+◌, ◌-◌, ◌<◌, List, [], ◌∷◌, ◌++◌, length, take, drop, get_or, add-one, arith}
use Rattle.std.specs.Prelude.{replicate}
use Rattle.binhex.specs.declared.runs.Run.{Run}
use Rattle.binhex.specs.inner.Spread.{left, run_behind, spread}

pub some_packed : (run : Run) (packed : List ℕ) → run.count ≡ 0 → 0 < length (left run packed) → 0 < length packed
some_packed run [] none some = absurd (no_more run.count none some)
  where
    no_more : (n : ℕ) → n ≡ 0 → 0 < length (replicate n run.byte ++ []) → ⊥
    no_more zero is h = omega arith
    no_more (suc n) is h = omega arith
some_packed run (byte ∷ packed) none some = omega arith

pub next_run : (run : Run) (packed : List ℕ) → run.count ≡ 0 → 0 < length packed
    → left run packed ≡ left (run_behind run (get_or packed 0 0)) (drop 1 packed)
next_run run [] none some = absurd (omega arith)
next_run run (byte ∷ packed) none some = ap (λ (n : ℕ). replicate n run.byte ++ spread run (byte ∷ packed)) none

-- how many bytes a run has left says nothing of those behind it
behind_same : (run : Run) (count : ℕ) (packed : List ℕ) → spread (record run { count = count }) packed ≡ spread run packed
behind_same run count [] = refl
behind_same run count (byte ∷ packed) = refl

pub next_byte : (run : Run) (packed : List ℕ) → 0 < run.count
    → left run packed ≡ run.byte ∷ left (record run { count = run.count - 1 }) packed
next_byte run packed some =
    by run.count some ∙ ap (λ (xs : List ℕ). run.byte ∷ (replicate (run.count - 1) run.byte ++ xs)) (sym (behind_same run (run.count - 1) packed))
  where
    less : (n : ℕ) → n ≡ suc n - 1
    less n = omega arith

    by : (n : ℕ) → 0 < n → replicate n run.byte ++ spread run packed ≡ run.byte ∷ (replicate (n - 1) run.byte ++ spread run packed)
    by zero h = absurd (omega arith)
    by (suc n) h = ap (λ (m : ℕ). run.byte ∷ (replicate m run.byte ++ spread run packed)) (less n)

-- one byte more of those that are left
pub passed_one : (bytes rest : List ℕ) (n byte : ℕ) → drop n bytes ≡ byte ∷ rest → rest ≡ drop (n + 1) bytes
passed_one bytes rest n byte is = suc_form bytes n is ∙ ap (λ (m : ℕ). drop m bytes) (sym (add-one n))
  where
    suc_form : (xs : List ℕ) (m : ℕ) → drop m xs ≡ byte ∷ rest → rest ≡ drop (suc m) xs
    suc_form [] zero h = cc
    suc_form [] (suc m) h = cc
    suc_form (x ∷ xs) zero h = cc
    suc_form (x ∷ xs) (suc m) h = suc_form xs m h

pub taken_one : (bytes rest : List ℕ) (n byte : ℕ) → drop n bytes ≡ byte ∷ rest → take (n + 1) bytes ≡ take n bytes ++ byte ∷ []
taken_one bytes rest n byte is = ap (λ (m : ℕ). take m bytes) (add-one n) ∙ suc_form bytes n is
  where
    suc_form : (xs : List ℕ) (m : ℕ) → drop m xs ≡ byte ∷ rest → take (suc m) xs ≡ take m xs ++ byte ∷ []
    suc_form [] zero h = cc
    suc_form [] (suc m) h = cc
    suc_form (x ∷ xs) zero h = let same : x ≡ byte = cc in ap (λ (y : ℕ). y ∷ []) same
    suc_form (x ∷ xs) (suc m) h = ap (λ (ys : List ℕ). x ∷ ys) (suc_form xs m h)
