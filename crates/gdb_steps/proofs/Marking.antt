-- An address whose mark is not set is not among those that are.
use Rattle.std.proofs.Common.{◌≡◌, ℕ, ◌==◌, ◌/◌, ◌%◌, Bool, true, false, List, All, get_or, slice_index_or, refl, sym, ap, ◌∙◌}
use Rattle.std.specs.List.{list_any}
use Rattle.std.proofs.lemmas.Bool.{eqb-true}
use Rattle.std.proofs.lemmas.List.Folds.{list_any_none}
use Rattle.gdb_steps.specs.inner.Marks.{IsMarked}

false-true : false ≡ true → ⊥
false-true e = cc

other : (marks : List Bool) (a b : ℕ) (t : Bool) → (b == a) ≡ t → slice_index_or marks (a / 2 % 1024) false ≡ false → IsMarked marks b → t ≡ false
other marks a b true same none is = absurd (false-true (sym none ∙ (ap (λ c. slice_index_or marks (c / 2 % 1024) false) (sym (eqb-true b a same)) ∙ is)))
other marks a b false same none is = refl

pub unmarked : (marks : List Bool) (a : ℕ) (xs : List ℕ) → slice_index_or marks (a / 2 % 1024) false ≡ false → All (IsMarked marks) xs → list_any (λ b. b == a) xs ≡ false
unmarked marks a xs none all = list_any_none (λ b. b == a) xs (λ k d few. other marks a (get_or xs k d) (get_or xs k d == a) refl none (all k d few))
