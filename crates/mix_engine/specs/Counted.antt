-- A run that tells how many of its steps are left.
use Rattle.std.specs.Prelude.{ℕ, ◌≤◌}
use Rattle.mixed_machine.specs.declared.stop.Stop.{Stop}
use Rattle.mixed_machine.specs.OutsideClauses.{At, Over}
use Rattle.mixed_machine.specs.Runs.{Stops}
use Rattle.mixed_machine.specs.RunsClauses.{sinks_of}

-- a run of at most n steps of a machine in memory, of which so many are left: the states that the machine stands for are
-- those of the definition's run
pub record RunsTo (n left : ℕ) (a b : At) (stop : Stop) : Type 0 where
  pub fewer : left ≤ n
  pub run : Over (λ s t. Stops 0 n left s t (sinks_of a) (sinks_of b) stop) a b
