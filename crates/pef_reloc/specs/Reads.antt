-- What was read of pattern data, and the bytes behind it.
use Rattle.std.specs.Prelude.{ℕ, List}

-- what was read, and the bytes behind it
pub record Read (X : Type 0) : Type 0 where
  pub value : X
  pub rest : List ℕ
