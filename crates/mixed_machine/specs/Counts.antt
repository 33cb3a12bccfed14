-- Whose count of faults rose where something of the outside stopped a run.
use Rattle.std.specs.Prelude.{Option, None, Some}
use Rattle.toolbox.specs.declared.broken.Broken.{Broken}
use Rattle.toolbox.specs.declared.broken.Broken.TheVariants.{Input, Output, Trace}
use Rattle.mixed_machine.specs.declared.stop.Stop.{Stop}
use Rattle.mixed_machine.specs.declared.stop.Stop.TheVariants.{ReadFault, OutFault, TraceFault}

-- what failed where a run stopped
abbrev pub broken_at : Stop → Option Broken
broken_at ReadFault = Some Input
broken_at OutFault = Some Output
broken_at TraceFault = Some Trace
broken_at _ = None
