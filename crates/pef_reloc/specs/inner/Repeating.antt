-- What a repeat does, once the span is found that it goes back over.
use Rattle.std.specs.Prelude.{ℕ, List, Result}
use Rattle.mix_bits.specs.Results.{◌>>=◌}
use Rattle.pef_reloc.specs.Additions.{Refused, Sources, State, counted, finished}
use Rattle.pef_reloc.specs.Program.{run_times}

-- the repeat counts as an instruction, and runs its span so many times more
abbrev pub repeated_span : Sources → List ℕ → ℕ → State → Result State Refused
repeated_span sources span further s = finished (counted s) >>= run_times sources span further
