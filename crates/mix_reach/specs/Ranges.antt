-- What was told of where a step stores.
use Rattle.std.specs.Prelude.{◌≡◌, Option, Some, None}
use Rattle.mix_reach.specs.declared.reach.Reach.{Reach}
use Rattle.mix_reach.specs.declared.reach.Stores.{Stores}
use Rattle.mix_reach.specs.declared.reach.Told.{Told}
use Rattle.mix_reach.specs.declared.reach.Told.TheVariants.{Nowhere, There, Unknown}
use Rattle.mix_reach.specs.laws.Ranges.{nothing, plain}

-- where it stores, if anywhere
abbrev pub stored_at : Option Reach → Stores
stored_at (Some w) = plain w
stored_at None = plain nothing

-- what was told of where it stores is so
abbrev pub IsTold : Told → Stores → Type 0
IsTold Nowhere s = s ≡ plain nothing
IsTold (There w) s = s ≡ plain w
IsTold Unknown s = Unit {0}
