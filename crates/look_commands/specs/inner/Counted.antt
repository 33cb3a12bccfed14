-- How a run of one step counts among those of a longer run.
use Rattle.std.specs.Prelude.{Bool, true, false}
use Rattle.mixed_machine.specs.declared.stop.Stop.{Stop}
use Rattle.mixed_machine.specs.declared.stop.Stop.TheVariants.{Exit, Fault, Limit, ReadFault, OutFault, TraceFault}

-- whether the step is done at which a run stopped
abbrev pub is_done : Stop → Bool
is_done (Exit code) = true
is_done (Fault fault) = false
is_done Limit = true
is_done ReadFault = false
is_done OutFault = false
is_done TraceFault = true

-- whether a run of one step ends a run that goes on by such steps
abbrev pub ends : Stop → Bool
ends (Exit code) = true
ends (Fault fault) = true
ends Limit = false
ends ReadFault = true
ends OutFault = true
ends TraceFault = true
