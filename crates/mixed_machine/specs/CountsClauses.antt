-- Whose count rose in a run.
use Rattle.toolbox.specs.Blames.{BlamesOnly, Counts}
use Rattle.toolbox.specs.CallsClauses.{counts_beside}
use Rattle.mixed_machine.specs.declared.stop.Stop.{Stop}
use Rattle.mixed_machine.specs.OutsideClauses.{At}
use Rattle.mixed_machine.specs.Counts.{broken_at}

abbrev pub counts_of : At → Counts
counts_of a = counts_beside a.outside a.trace

-- its count rose, and no other
abbrev pub Blames : Stop → Counts → Counts → Type 0
Blames stop old new = BlamesOnly (broken_at stop) old new
