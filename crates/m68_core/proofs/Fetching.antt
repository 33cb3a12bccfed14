-- The bytes behind an address.
use Rattle.std.proofs.Common.{◌≡◌, ℕ, ◌-◌, List, length, take, drop, arith}
use Rattle.std.proofs.lemmas.Grind.{common_steps}

-- all bytes from an address on
pub rest-is : (from : ℕ) (xs : List ℕ) → take (length xs - from) (drop from xs) ≡ drop from xs
rest-is from xs = grind (arith, common_steps)
