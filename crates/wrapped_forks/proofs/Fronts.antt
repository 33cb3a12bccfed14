-- Fronts of lists.
use Rattle.std.proofs.Common.{◌≡◌, ℕ, ◌≤◌, List, length, take, arith}
use Rattle.std.proofs.lemmas.List.{length-take}

pub front_long : (n : ℕ) (xs : List ℕ) → n ≤ length xs → n ≡ length (take n xs)
front_long n xs h = omega (arith, length-take n xs)
