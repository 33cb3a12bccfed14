-- How one of the ways in which a call ends accounts for failures and devices.
use Rattle.std.specs.Prelude.{ℕ, List, Option}
use Rattle.mix_top.specs.World.{Beside, Accounted}
use Rattle.mix_top.specs.declared.ending.Ending.{Ending}

-- a call that may keep something under this name ended in one of these ways, and accounts for each failure and each device
pub record EndsIn (save : Option (List ℕ)) (Way : Beside → Beside → Ending → Type 0) (old new : Beside) (result : Ending) : Type 0 where
  pub accounted : Accounted save old new result.status
  pub way : Way old new result
