-- The outside with one part that tells.
use Rattle.std.specs.Prelude.{ℕ, List, Option}
use Rattle.mix_io.specs.Streams.{Output}
use Rattle.dev_rack.specs.Rack.{State}
use Rattle.toolbox.specs.Calls.{Input, Outside}

-- the same with one part that tells, beside the others
abbrev pub with_input : Option (List ℕ) → ℕ → State → Output → Outside
with_input left faults rack out = record { input = record { left = left; faults = faults }; rack = rack; out = out }

abbrev pub with_rack : Input → State → Output → Outside
with_rack input rack out = record { input = input; rack = rack; out = out }

abbrev pub with_output : Input → State → Option (List ℕ) → ℕ → Outside
with_output input rack held faults = record { input = input; rack = rack; out = record { held = held; faults = faults } }
