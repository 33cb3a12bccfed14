-- Arguments appended one by one, and filled up.
use Rattle.std.proofs.Common.{◌≡◌, ℕ, List, [], ◌∷◌, ◌++◌, take, drop, Option, Some, None, refl, sym, ap, ◌∙◌, append_assoc}
use Rattle.std.specs.Option.{option_map}
use Rattle.std.proofs.lemmas.List.{append-nil, take-append-drop}
use Rattle.trace_lines.specs.inner.Reading.{behind}

-- a value and then others, behind some values
pub behind_front : (xs : List ℕ) (v : ℕ) (vs : Option (List ℕ)) → behind xs (option_map (λ ys. v ∷ ys) vs) ≡ behind (xs ++ v ∷ []) vs
behind_front xs v (Some ys) = ap Some (sym (append_assoc xs (v ∷ []) ys))
behind_front xs v None = refl

-- none behind some values
pub behind_none : (xs : List ℕ) → behind xs (Some []) ≡ Some xs
behind_none xs = ap Some (append-nil xs)

-- a list is its front and its rest
pub parts_are : (n : ℕ) (all xs zs : List ℕ) → take n all ≡ xs → drop n all ≡ zs → all ≡ xs ++ zs
parts_are n all xs zs front rest = sym (take-append-drop n all) ∙ ap (λ ys. ys ++ drop n all) front ∙ ap (λ ys. xs ++ ys) rest
