-- A list again and again.
use Rattle.std.specs.Prelude.{ℕ, zero, suc, List, [], ◌++◌}

abbrev pub times : {X : Type 0} → ℕ → List X → List X
times zero xs = []
times (suc n) xs = xs ++ times n xs
