-- A point that was taken away is not among the others.
use Rattle.std.proofs.Common.{◌≡◌, ◌||◌, Bool, true, false, List, [], ◌∷◌, not, refl, ap, ◌∙◌, filter, if◌then◌else◌}
use Rattle.std.specs.List.{list_any}

kept_or_not : {X : Type 0} (p : X → Bool) (x : X) (xs : List X) (t : Bool) → p x ≡ t → list_any p xs ≡ false → list_any p (if not t then x ∷ xs else xs) ≡ false
kept_or_not p x xs true is rest = rest
kept_or_not p x xs false is rest = ap (λ t. t || list_any p xs) is ∙ rest

pub none_left : {X : Type 0} (p : X → Bool) (xs : List X) → list_any p (filter (λ y. not (p y)) xs) ≡ false
none_left p [] = refl
none_left p (x ∷ xs) = kept_or_not p x (filter (λ y. not (p y)) xs) (p x) refl (none_left p xs)
