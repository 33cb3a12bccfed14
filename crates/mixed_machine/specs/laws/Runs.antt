-- A run on its way.
use Rattle.std.specs.Prelude.{ℕ, ◌-◌, ◌≤◌}
use Rattle.mixed_machine.specs.State.{State}
use Rattle.mixed_machine.specs.Exec.{Leads}
use Rattle.mixed_machine.specs.Runs.{Sinks, SinksTook}

-- a run on its way: n - left steps led from s to t
pub record Going (d n left : ℕ) (s t : State) (old new : Sinks) : Type 0 where
  pub fewer : left ≤ n
  pub leads : Leads d (n - left) s t
  pub took : SinksTook (n - left) s old new
