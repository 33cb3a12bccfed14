-- A rack of boxed devices as definitions see it, and how it begins.
use Rattle.std.specs.Prelude.{ℕ, List, [], map, Option, Some, option_map}
use Rattle.dev_rack.specs.Slots.{Seen}
use Rattle.dev_rack.specs.Rack.{State}

-- a device by its members, and slots that hold devices or none
abbrev pub seen : {B : Type 0} → (B → ℕ) → (B → Option (List (ℕ × Option ℕ))) → B → Seen
seen faults told device =
    record {
      faults = faults device;
      told = told device;
    }

abbrev pub seen_slots : {B : Type 0} → (B → ℕ) → (B → Option (List (ℕ × Option ℕ))) → List (Option B) → List (Option Seen)
seen_slots faults told slots = map (option_map (seen faults told)) slots

-- devices in the slots from 0 on, with no ask yet
abbrev pub fresh : List Seen → State
fresh devices =
    record {
      slots = map Some devices;
      journal = [];
    }
