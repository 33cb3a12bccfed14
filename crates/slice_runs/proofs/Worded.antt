-- A call with the same words.
use Rattle.std.proofs.Common.{◌≡◌, ℕ, List, [], ◌∷◌, length, Option, subst, refl}
use Rattle.slice_parts.specs.Buffers.{Buffer, buffer}
use Rattle.slice_runs.specs.Called.{Called}

pub Called-along : (words others : List (List ℕ)) (files : List ℕ → Option (List ℕ)) (input : List ℕ) (out trace kept : Buffer) (steps result : ℕ)
    → words ≡ others → Called words files input out trace kept steps result → Called others files input out trace kept steps result
Called-along words others files input out trace kept steps result same ends =
    let P : List (List ℕ) → Type 0 = λ ws. Called ws files input out trace kept steps result in
    subst P same ends

none-left : (xs : List ℕ) → length xs ≡ 0 → xs ≡ []
none-left [] none = refl
none-left (x ∷ xs) none = cc

-- one that was lent no buffer for what is kept
pub Called-unkept : (words others : List (List ℕ)) (files : List ℕ → Option (List ℕ)) (input : List ℕ) (out trace : Buffer) (new : List ℕ) (count steps result : ℕ)
    → words ≡ others → length new ≡ 0 → Called words files input out trace (buffer [] new count) steps result
    → Called others files input out trace (buffer [] [] count) steps result
Called-unkept words others files input out trace new count steps result same none ends =
    let P : List ℕ → Type 0 = λ k. Called words files input out trace (buffer [] k count) steps result in
    Called-along words others files input out trace (buffer [] [] count) steps result same (subst P (none-left new none) ends)
