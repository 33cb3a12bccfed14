-- Whether the program goes on behind a step.
use Rattle.std.specs.Prelude.{Bool, true, false}
use Rattle.mixed_machine.specs.declared.stop.Stop.{Stop}
use Rattle.mixed_machine.specs.declared.stop.Stop.TheVariants.{Exit, Fault, Limit, ReadFault, OutFault, TraceFault}

abbrev pub goes_on : Stop → Bool
goes_on (Exit code) = false
goes_on (Fault fault) = false
goes_on Limit = true
goes_on ReadFault = false
goes_on OutFault = false
goes_on TraceFault = false
