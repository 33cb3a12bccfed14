-- Slots of devices, real ones and ones that are played back.
use Rattle.std.specs.Prelude.{◌≡◌, ℕ, ◌≤◌, Bool, List, length, map, take, is_some, Option, None, Some, Result, Ok, Err}
use Rattle.mix_io.specs.declared.errors.Failed.{Failed}
use Rattle.dev_rack.specs.Slots.{Seen}
use Rattle.dev_rack.specs.Boxed.{seen_slots as slots_seen}
use Rattle.dev_rack.specs.Rack.{State}

-- it is known which of at most eight slots hold a device
pub record IsKnown (rack : State) (held : List Bool) : Type 0 where
  pub few : length rack.slots ≤ 8
  pub limit : length rack.journal ≤ 4096
  pub known : take (length rack.slots) held ≡ map is_some rack.slots

-- devices that tell nothing but how often they failed
abbrev pub seen_slots : List (Option ℕ) → List (Option Seen)
seen_slots slots = slots_seen (λ failures. failures) (λ failures. None) slots

-- what a device came to that gave an answer, or none
abbrev pub failure : Option ℕ → Result ℕ Failed
failure None = Err (record {})
failure (Some answer) = Ok answer
