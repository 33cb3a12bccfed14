-- A piece that is appended whole, or not at all.
use Rattle.std.specs.Prelude.{ℕ, ◌≡◌, ◌↔◌, ◌+◌, ◌≤◌, List, ◌++◌, length, Bool, IsTrue, if◌then◌else◌}

-- a piece is appended whole exactly where the line then has at most `most` bytes, else nothing is
pub record AppendsWithin (most : ℕ) (old new piece : List ℕ) (fits : Bool) : Type 0 where
  pub when : IsTrue fits ↔ (length old + length piece ≤ most)
  pub bytes : new ≡ (if fits then old ++ piece else old)
