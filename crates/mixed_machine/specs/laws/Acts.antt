-- What a step of a machine in memory did.
use Rattle.std.specs.Prelude.{◌≡◌, ℕ, ◌∷◌, List, [], Option, None, Some}
use Rattle.mix_bits.specs.declared.fault.Fault.{Fault as AFault}
use Rattle.mix_io.specs.Streams.{Grows, Breaks}
use Rattle.switch_frame.specs.Records.{Record, isa_of}
use Rattle.dev_rack.specs.Accounts.{Accounts}
use Rattle.toolbox.specs.declared.broken.Broken.{Broken}
use Rattle.toolbox.specs.declared.broken.Broken.TheVariants.{Input, Output, Trace}
use Rattle.toolbox.specs.Blames.{BlamesOnly}
use Rattle.mixed_machine.specs.declared.did.Did.{Did}
use Rattle.mixed_machine.specs.declared.did.Did.TheVariants.{Next as IsNext, Call, Return, Exit, Fault, ReadFault, OutFault, TraceFault}
use Rattle.mixed_machine.specs.State.{State}
use Rattle.mixed_machine.specs.Next.{Next}
use Rattle.mixed_machine.specs.Next.Next.{Exits, Faults}
use Rattle.mixed_machine.specs.Exec.{GoesTo, Reads, said_of, line_of}
use Rattle.mixed_machine.specs.StepClauses.{Says, Tells}
use Rattle.mixed_machine.specs.Machine.{IsWhole, callers_of}
use Rattle.mixed_machine.specs.OutsideClauses.{At, Over}
use Rattle.mixed_machine.specs.CountsClauses.{counts_of}
use Rattle.mixed_machine.specs.Runs.{Sinks}
use Rattle.mixed_machine.specs.RunsClauses.{sinks_of}

-- the definition's step, done or not, with the fault in its cell
abbrev pub Stepped : Next → Did → AFault → State → State → Type 0
Stepped x IsNext cell old new = GoesTo x new
Stepped x Call cell old new = GoesTo x new
Stepped x Return cell old new = GoesTo x new
Stepped x (Exit code) cell old new = (x ≡ Exits code) × (new ≡ old)
Stepped x Fault cell old new = (x ≡ Faults cell) × (new ≡ old)
Stepped x ReadFault cell old new = Reads x × (new ≡ old)
Stepped x OutFault cell old new = Says x × (new ≡ old)
Stepped x TraceFault cell old new = GoesTo x new × Tells x

-- both sinks took these bytes
pub record BothGrow (old new : Sinks) (said line : List ℕ) : Type 0 where
  pub out : Grows old.out new.out said
  pub trace : Grows old.trace new.trace line

-- the output failed within a piece, and the trace within a line
pub record OutBreaks (old new : Sinks) (piece : List ℕ) : Type 0 where
  pub out : Breaks old.out new.out [] piece
  pub trace : Grows old.trace new.trace []

pub record TraceBreaks (old new : Sinks) (said line : List ℕ) : Type 0 where
  pub out : Grows old.out new.out said
  pub trace : Breaks old.trace new.trace [] line

-- what it put
abbrev pub Puts : Next → Did → Sinks → Sinks → Type 0
Puts x IsNext old new = BothGrow old new (said_of x) (line_of x)
Puts x Call old new = BothGrow old new (said_of x) (line_of x)
Puts x Return old new = BothGrow old new (said_of x) (line_of x)
Puts x (Exit code) old new = BothGrow old new [] []
Puts x Fault old new = BothGrow old new [] []
Puts x ReadFault old new = BothGrow old new [] []
Puts x OutFault old new = OutBreaks old new (said_of x)
Puts x TraceFault old new = TraceBreaks old new (said_of x) (line_of x)

pub record Done (x : Next) (did : Did) (cell : AFault) (s t : State) (old new : Sinks) : Type 0 where
  pub state : Stepped x did cell s t
  pub put : Puts x did old new

-- what it did to the suspended callers
abbrev pub Kept : Did → List Record → List Record → Type 0
Kept IsNext old new = new ≡ old
Kept Call old new = (r : Record) × (new ≡ r ∷ old)
Kept Return old new = (r : Record) × (old ≡ r ∷ new)
Kept (Exit code) old new = new ≡ old
Kept Fault old new = new ≡ old
Kept ReadFault old new = new ≡ old
Kept OutFault old new = new ≡ old
Kept TraceFault old new = Unit {0}

-- what failed in it
abbrev pub broken_by : Did → Option Broken
broken_by IsNext = None
broken_by Call = None
broken_by Return = None
broken_by (Exit code) = None
broken_by Fault = None
broken_by ReadFault = Some Input
broken_by OutFault = Some Output
broken_by TraceFault = Some Trace

-- a step of the definition, done or not, by a machine in memory: it is whole afterwards, and stands for the state that
-- the step gives; the journal accounts for each device
pub record Acts (x : State → Next) (did : Did) (cell : AFault) (a b : At) : Type 0 where
  pub whole : IsWhole b.body (isa_of b.active)
  pub callers : Kept did (callers_of a.body) (callers_of b.body)
  pub blames : BlamesOnly (broken_by did) (counts_of a) (counts_of b)
  pub devices : Accounts a.outside.rack b.outside.rack
  pub step : Over (λ s t. Done (x s) did cell s t (sinks_of a) (sinks_of b)) a b
