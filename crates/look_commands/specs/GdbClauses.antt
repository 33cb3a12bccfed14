-- gdb's streams by what they tell.
use Rattle.std.specs.Prelude.{ℕ, List, Option}
use Rattle.mix_io.specs.StreamsClauses.{output}
use Rattle.look_commands.specs.Gdb.{Wire}

abbrev pub wire : Option (List ℕ) → ℕ → Option (List ℕ) → ℕ → Wire
wire left faults held out_faults = record { left = left; faults = faults; out = output held out_faults }
