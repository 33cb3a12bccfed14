-- What a run of either set leaves, for every state that the machine stands for.
use Rattle.std.specs.Prelude.{◌≡◌, ℕ, ◌-◌, ◌≤◌}
use Rattle.mixed_machine.specs.declared.stop.Stop.{Stop}
use Rattle.mixed_machine.specs.State.{State}
use Rattle.mixed_machine.specs.OutsideClauses.{At, Over}
use Rattle.mixed_machine.specs.Exec.{exec_to}
use Rattle.mixed_machine.specs.Exec.End.{Back}
use Rattle.mixed_machine.specs.Runs.{Sinks, SinksTook, Stops}

abbrev pub sinks_of : At → Sinks
sinks_of a = record { out = a.outside.out; trace = a.trace }

-- one that came back to fewer than d callers
pub record CameBack (d n left : ℕ) (s t : State) (old new : Sinks) : Type 0 where
  pub fewer : left ≤ n
  pub ends : exec_to d n s ≡ Back t left
  pub took : SinksTook (n - left) s old new

-- a run of at most n steps of a machine in memory: some steps are left, and the states that the machine stands for
-- are those of the definition's run
pub record Runs (n : ℕ) (a b : At) (stop : Stop) : Type 0 where
  pub left : ℕ
  pub fewer : left ≤ n
  pub run : Over (λ s t. Stops 0 n left s t (sinks_of a) (sinks_of b) stop) a b
