-- An output by what it tells.
use Rattle.std.specs.Prelude.{ℕ, List, Option}
use Rattle.mix_io.specs.Streams.{Output}

abbrev pub output : Option (List ℕ) → ℕ → Output
output held faults = record { held = held; faults = faults }
