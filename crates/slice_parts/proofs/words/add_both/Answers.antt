-- Two words, one behind the other.
use Rattle.std.proofs.Common.{◌≡◌, ℕ, List, [], ◌∷◌, ◌++◌, ◌∙◌, ap, append_assoc, OnOk, Result, Ok, Err}
use Rattle.slice_parts.proofs.words.add_both.Goals as goal

behind-both : {E : Type 0} (r : Result (Unit {0}) E) (old mid new : List (List ℕ)) (a b : List ℕ)
    → mid ≡ old ++ (a ∷ []) → OnOk r (new ≡ mid ++ (b ∷ [])) → OnOk r (new ≡ old ++ (a ∷ b ∷ []))
behind-both (Ok done) old mid new a b first second =
    second ∙ (ap (λ m. m ++ (b ∷ [])) first ∙ append_assoc old (a ∷ []) (b ∷ []))
behind-both (Err e) old mid new a b first second = tt

pub returns : goal.returns
returns c = behind-both _ _ _ _ _ _ c.in_ok-add.ensures c.add-2.ensures
