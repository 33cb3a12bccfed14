-- A run of a machine in memory, with the number of its steps that were done.
use Rattle.std.specs.Prelude.{ℕ, ◌-◌, ◌≤◌}
use Rattle.mixed_machine.specs.declared.stop.Stop.{Stop}
use Rattle.mixed_machine.specs.Events.{StopsAt}
use Rattle.mixed_machine.specs.OutsideClauses.{At}

-- one run of at most n steps leads from a to b, with its output and its trace, and so many of its steps were done
pub record RanSteps (n done : ℕ) (a b : At) (stop : Stop) : Type 0 where
  pub few : done ≤ n
  pub run : StopsAt 0 n (n - done) a b stop
