-- Pieces kept one after another join.
use Rattle.std.specs.Prelude.{ℕ, List, [], ◌++◌, Option, Result, Err}
use Rattle.mix_io.specs.declared.errors.Failed.{Failed}
use Rattle.mix_io.specs.Kept.{KeepsMore}
use Rattle.mix_io.specs.KeptClauses.{Saves}

-- nothing that was kept leaves a keeper as it is; a piece kept after another joins it; and of a longer piece whose front
-- failed, a front is kept
abbrev pub NothingKept : Type 0
NothingKept = (a : Option (List ℕ → List ℕ)) (name : List ℕ) → KeepsMore a a name []

abbrev pub SavesJoin : Type 0
SavesJoin =
    (a b c : Option (List ℕ → List ℕ)) (name xs ys : List ℕ) (result : Result (Unit {0}) Failed) → KeepsMore a b name xs → Saves b c name ys result → Saves a c name (xs ++ ys) result

abbrev pub SavesFront : Type 0
SavesFront =
    (a b : Option (List ℕ → List ℕ)) (name xs ys : List ℕ) (failed : Failed) → Saves a b name xs (Err failed) → Saves a b name (xs ++ ys) (Err failed)
