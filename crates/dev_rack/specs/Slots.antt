-- What is seen of the devices in the slots: their counts of faults, and the conversations that they tell.
use Rattle.std.specs.Prelude.{ℕ, List, Option, None, slice_index_or}

-- a device
pub record Seen : Type 0 where
  pub faults : ℕ
  pub told : Option (List (ℕ × Option ℕ))

-- the device in a slot, if there is such a slot and it holds one
abbrev pub device_at : List (Option Seen) → ℕ → Option Seen
device_at slots slot = slice_index_or slots slot None
