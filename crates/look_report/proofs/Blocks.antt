-- A loop over a list that appends a text for each.
use Rattle.std.proofs.Common.{◌≡◌, ℕ, ◌+◌, ◌<◌, List, ◌++◌, length, drop, ap, sym, ◌∙◌, append_assoc}
use Rattle.std.specs.List.{flat_map}
use Rattle.std.proofs.lemmas.List.{drop_more}
use Rattle.std.proofs.Math.ListN.{get_or}

pub one-more : {X : Type 0} (f : X → List ℕ) (old new all : List ℕ) (xs : List X) (i : ℕ) (d : X) → i < length xs → new ≡ old ++ f (get_or xs i d) → old ++ flat_map f (drop i xs) ≡ all
    → new ++ flat_map f (drop (i + 1) xs) ≡ all
one-more f old new all xs i d within put whole =
    ap (λ ys. ys ++ flat_map f (drop (i + 1) xs)) put ∙ append_assoc old (f (get_or xs i d)) (flat_map f (drop (i + 1) xs))
    ∙ ap (λ ys. old ++ flat_map f ys) (sym (drop_more xs i d within)) ∙ whole
