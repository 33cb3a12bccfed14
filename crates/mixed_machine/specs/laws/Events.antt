-- How runs go on from one event to the next: they begin, go on, come back and stop.
use Rattle.std.specs.Prelude.{ℕ, ◌+◌, ◌-◌, ◌<◌, ◌≤◌, length}
use Rattle.mix_bits.specs.declared.fault.Fault.{Fault as AFault}
use Rattle.dev_rack.specs.Accounts.{Accounts}
use Rattle.mixed_machine.specs.declared.did.Did.{Did}
use Rattle.mixed_machine.specs.declared.did.Did.TheVariants.{Next as IsNext, Call, Return, Exit, Fault, ReadFault, OutFault, TraceFault}
use Rattle.mixed_machine.specs.declared.stop.Stop.{Stop}
use Rattle.mixed_machine.specs.declared.stop.Stop.TheVariants.{Exit as ExitStop, Fault as FaultStop, Limit, ReadFault as ReadStop, OutFault as OutStop, TraceFault as TraceStop}
use Rattle.mixed_machine.specs.State.{State}
use Rattle.mixed_machine.specs.Step.{step}
use Rattle.mixed_machine.specs.Machine.{callers_of}
use Rattle.mixed_machine.specs.OutsideClauses.{At, Over}
use Rattle.mixed_machine.specs.laws.Acts.{Acts}
use Rattle.mixed_machine.specs.laws.Runs.{Going}
use Rattle.mixed_machine.specs.Runs.{Stops}
use Rattle.mixed_machine.specs.RunsClauses.{sinks_of}
use Rattle.mixed_machine.specs.Events.{CameBackAt, StopsAt}

-- a run down to d callers of at most n steps: it is on its way with `left` steps left, came back, or stopped
abbrev pub GoingAt : ℕ → ℕ → ℕ → At → At → Type 0
GoingAt d n left a b = Over (λ s t. Going d n left s t (sinks_of a) (sinks_of b)) a b

-- no fewer callers than d are suspended
abbrev pub IsDeep : ℕ → At → Type 0
IsDeep d a = d ≤ length (callers_of a.body)

-- a step that is done, and ends nothing
abbrev pub IsDone : Did → Type 0
IsDone IsNext = Unit {0}
IsDone Call = Unit {0}
IsDone Return = Unit {0}
IsDone (Exit code) = ⊥
IsDone Fault = ⊥
IsDone ReadFault = ⊥
IsDone OutFault = ⊥
IsDone TraceFault = ⊥

abbrev pub BeginsAt : Type 0
BeginsAt = (d n : ℕ) (a : At) → IsDeep d a → GoingAt d n n a a

abbrev pub GoesOnAt : Type 0
GoesOnAt =
    (d n left : ℕ) (did : Did) (cell : AFault) (a b c : At) → 0 < left → IsDone did → Accounts a.outside.rack b.outside.rack
    → GoingAt d n left a b → Acts step did cell b c → IsDeep d c → GoingAt d n (left - 1) a c

abbrev pub ComesBackAt : Type 0
ComesBackAt =
    (d n left : ℕ) (did : Did) (cell : AFault) (a b c : At) → 0 < left → IsDone did → Accounts a.outside.rack b.outside.rack
    → GoingAt d n left a b → Acts step did cell b c → length (callers_of c.body) < d → CameBackAt d n (left - 1) a c

abbrev pub LimitAt : Type 0
LimitAt = (d n left : ℕ) (a b : At) → left ≤ 0 → GoingAt d n left a b → StopsAt d n left a b Limit

abbrev pub ExitsAt : Type 0
ExitsAt =
    (d n left code : ℕ) (cell : AFault) (a b c : At) → 0 < left → Accounts a.outside.rack b.outside.rack
    → GoingAt d n left a b → Acts step (Exit code) cell b c → StopsAt d n (left - 1) a c (ExitStop code)

abbrev pub FaultsAt : Type 0
FaultsAt =
    (d n left : ℕ) (cell : AFault) (a b c : At) → 0 < left → Accounts a.outside.rack b.outside.rack
    → GoingAt d n left a b → Acts step Fault cell b c → StopsAt d n left a c (FaultStop cell)

abbrev pub ReadBreaksAt : Type 0
ReadBreaksAt =
    (d n left : ℕ) (cell : AFault) (a b c : At) → 0 < left → Accounts a.outside.rack b.outside.rack
    → GoingAt d n left a b → Acts step ReadFault cell b c → StopsAt d n left a c ReadStop

abbrev pub OutBreaksAt : Type 0
OutBreaksAt =
    (d n left : ℕ) (cell : AFault) (a b c : At) → 0 < left → Accounts a.outside.rack b.outside.rack
    → GoingAt d n left a b → Acts step OutFault cell b c → StopsAt d n left a c OutStop

abbrev pub TraceBreaksAt : Type 0
TraceBreaksAt =
    (d n left : ℕ) (cell : AFault) (a b c : At) → 0 < left → Accounts a.outside.rack b.outside.rack
    → GoingAt d n left a b → Acts step TraceFault cell b c → StopsAt d n (left - 1) a c TraceStop

-- a run that was part of this one, down to at least as many callers, came back or stopped
abbrev pub CalleeCameBack : Type 0
CalleeCameBack =
    (e d n left l : ℕ) (a b c : At) → d ≤ e → Accounts a.outside.rack b.outside.rack → Accounts b.outside.rack c.outside.rack
    → GoingAt d n left a b → CameBackAt e left l b c → IsDeep d c → GoingAt d n l a c

abbrev pub CalleeStopped : Type 0
CalleeStopped =
    (e d n left l : ℕ) (a b c : At) (stop : Stop) → d ≤ e → Accounts a.outside.rack b.outside.rack → Accounts b.outside.rack c.outside.rack
    → GoingAt d n left a b → StopsAt e left l b c stop → StopsAt d n l a c stop

-- a run that was cut at its step limit, and continued
abbrev pub CutGoesOn : Type 0
CutGoesOn =
    (n m left l : ℕ) (a b c : At) (stop : Stop) → Accounts a.outside.rack b.outside.rack → Accounts b.outside.rack c.outside.rack
    → StopsAt 0 n left a b Limit → StopsAt 0 m l b c stop → StopsAt 0 (n + m) l a c stop

-- what a stop is in each state that the machine stands for, it is of the machine
abbrev pub StopsImply : Type 0
StopsImply =
    (d n left e m l : ℕ) (a b : At) (stop : Stop) → ((s t : State) → Stops d n left s t (sinks_of a) (sinks_of b) stop → Stops e m l s t (sinks_of a) (sinks_of b) stop)
    → StopsAt d n left a b stop → StopsAt e m l a b stop
