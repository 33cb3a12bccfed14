-- The statuses of runs.
use Rattle.std.specs.Prelude.{ℕ, Bool, if◌then◌else◌}
use Rattle.mixed_machine.specs.declared.stop.Stop.{Stop}
use Rattle.mixed_machine.specs.declared.stop.Stop.TheVariants.{Exit, Fault, Limit, ReadFault, OutFault, TraceFault}

-- the status of a run by how it stopped, and whether its last line and the report were put: only what the outside
-- refused counts
abbrev pub status_at : Stop → Bool → ℕ
status_at ReadFault reported = 5
status_at OutFault reported = 6
status_at TraceFault reported = 7
status_at (Exit code) reported = if reported then 0 else 7
status_at (Fault fault) reported = if reported then 0 else 7
status_at Limit reported = if reported then 0 else 7
