-- A run that is counted on its way.
use Rattle.std.specs.Prelude.{ℕ, ◌-◌, ◌≤◌}
use Rattle.mixed_machine.specs.State.{State}
use Rattle.mixed_machine.specs.Exec.{Leads}
use Rattle.mixed_machine.specs.Crossings.{Crossed}

-- a run of at most n steps on its way, with so many steps left and so many crossings behind it
pub record Counting (n left : ℕ) (s t : State) (calls returns : ℕ) : Type 0 where
  pub fewer : left ≤ n
  pub leads : Leads 0 (n - left) s t
  pub crossed : Crossed (n - left) s calls returns
  pub few_calls : calls ≤ n - left
  pub few_returns : returns ≤ n - left
