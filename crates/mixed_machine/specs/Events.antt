-- Laws of a run of a machine in memory, one event at a time.
use Rattle.std.specs.Prelude.{ℕ}
use Rattle.mixed_machine.specs.declared.stop.Stop.{Stop}
use Rattle.mixed_machine.specs.OutsideClauses.{At, Over}
use Rattle.mixed_machine.specs.RunsClauses.{CameBack, sinks_of}
use Rattle.mixed_machine.specs.Runs.{Stops}

abbrev pub CameBackAt : ℕ → ℕ → ℕ → At → At → Type 0
CameBackAt d n left a b = Over (λ s t. CameBack d n left s t (sinks_of a) (sinks_of b)) a b

abbrev pub StopsAt : ℕ → ℕ → ℕ → At → At → Stop → Type 0
StopsAt d n left a b stop = Over (λ s t. Stops d n left s t (sinks_of a) (sinks_of b) stop) a b
