-- What a call finds outside, put together from its parts.
use Rattle.std.specs.Prelude.{ℕ, List, [], ◌∷◌, Option, Some}
use Rattle.dev_rack.specs.Boxed.{fresh}
use Rattle.dev_rack.specs.Rack.{State}
use Rattle.dev_rack.specs.Slots.{Seen}
use Rattle.mix_top.specs.World.{Contents, ShelfCounts, Keep, Beside, beside, World}

abbrev pub counting : (List ℕ → ℕ) → (List ℕ → ℕ) → ShelfCounts
counting faults excesses = record { faults = faults; excesses = excesses }

abbrev pub keeping : Option (List ℕ → List ℕ) → (List ℕ → ℕ) → Keep
keeping kept faults = record { kept = kept; faults = faults }

abbrev pub world : Contents → ShelfCounts → Beside → World
world contents counts beside = record { shelf = record { contents = contents; counts = counts }; beside = beside }

-- a device that was not asked yet
abbrev pub unasked : Seen
unasked = record { faults = 0; told = Some [] }

-- two devices in the slots 0 and 1, neither of which was asked
abbrev pub two_devices : State
two_devices = fresh (unasked ∷ unasked ∷ [])
