-- A device that was asked: its count and its conversation before and after.
use Rattle.std.specs.Prelude.{◌≡◌, ℕ, List, Option, Some, Result, slice_set}
use Rattle.mix_io.specs.CountsClauses.{HasCause}
use Rattle.mix_io.specs.Told.{Hears}
use Rattle.dev_rack.specs.Slots.{Seen, device_at}

-- a device was asked this word once, with this result
pub record Heard {E : Type 0} (before after : Seen) (word : ℕ) (result : Result ℕ E) : Type 0 where
  pub told : Hears before.told after.told word result
  pub cause : HasCause before.faults after.faults result

-- the device in a slot was asked, and no other slot changed
pub record HeardAt {E : Type 0} (old new : List (Option Seen)) (slot word : ℕ) (result : Result ℕ E) : Type 0 where
  pub before : Seen
  pub after : Seen
  pub held : device_at old slot ≡ Some before
  pub written : new ≡ slice_set old slot (Some after)
  pub heard : Heard before after word result
