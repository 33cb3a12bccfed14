-- A piece of a list, and a list with a piece replaced.
use Rattle.std.specs.Prelude.{ℕ, ◌+◌, List, ◌++◌, length, take, drop, replicate}

-- the n elements from place `at` on
abbrev pub part : {X : Type 0} → ℕ → ℕ → List X → List X
part at n xs = take n (drop at xs)

-- the list with the elements from place `at` on replaced by those of another list
abbrev pub put : {X : Type 0} → ℕ → List X → List X → List X
put at ys xs = take at xs ++ (ys ++ drop (at + length ys) xs)

-- so many zeros
abbrev pub zeros : ℕ → List ℕ
zeros n = replicate n 0
