-- What code does by itself, without a gate or the host.
use Rattle.std.specs.Prelude.{◌≡◌, ℕ, zero, suc, ◌<◌, ◌^◌, Bool, true, false}
use Rattle.mix_bits.specs.declared.isa.Isa.{Isa}
use Rattle.mix_bits.specs.declared.fault.Fault.{Fault}
use Rattle.big_memory.specs.declared.steps.Did.{Did}
use Rattle.big_memory.specs.declared.steps.Did.TheVariants.{Next as IsNext, Leave as IsLeave, Stop as IsStop}
use Rattle.big_memory.specs.Map.{host_functions}
use Rattle.big_memory.specs.Steps.{After}
use Rattle.big_memory.specs.Steps.After.{Goes as GoesOn, Leaves, Stops}
use Rattle.switch_frame.specs.declared.active.Active.{Active}
use Rattle.switch_frame.specs.declared.active.Active.TheVariants.{M68, Ppc}
use Rattle.switch_frame.specs.Records.{isa_of}
use Rattle.toolbox.specs.Effects.{Around}
use Rattle.mixed_machine.specs.declared.body.Body.{Body}
use Rattle.mixed_machine.specs.State.{State}
use Rattle.mixed_machine.specs.Next.{Next, quiet}
use Rattle.mixed_machine.specs.Next.Next.{Goes, Faults}
use Rattle.mixed_machine.specs.Leave.{at_gate}
use Rattle.mixed_machine.specs.Host.{traps, hosts}
use Rattle.mixed_machine.specs.Step.{step}
use Rattle.mixed_machine.specs.Machine.{callers_of, flat, IsWhole}
use Rattle.mix_engine.specs.declared.code.Code.{Code}
use Rattle.mix_engine.specs.declared.code.Code.TheVariants.{Next as Goes_on, Leave, Stop, Gate}
use Rattle.mix_engine.specs.inner.Changes.{IsChanged}

-- an instruction of a set over the memory of a machine; it never touches the heap's blocks
abbrev pub CoreSteps : {R : Type 0} → After R → Did → Fault → R → R → Body → Body → Isa → Type 0
CoreSteps x IsNext cell r next b new set = (x ≡ GoesOn next new.ram) × IsChanged b new set × (new.heap ≡ b.heap)
CoreSteps x IsLeave cell r next b new set = (x ≡ Leaves cell.detail) × (next ≡ r) × (new ≡ b)
CoreSteps x IsStop cell r next b new set = (x ≡ Stops cell) × (next ≡ r) × (new ≡ b)

-- the host goes on with a number: a word of line A, or the number of a host function
abbrev pub leaves_code : Active → State → ℕ → Next
leaves_code (M68 r) s number = traps s r number
leaves_code (Ppc r) s number = hosts s number

-- a number is small where code was left
abbrev pub IsNumber : Active → ℕ → Type 0
IsNumber (M68 r) number = number < 2 ^ 16
IsNumber (Ppc r) number = number < host_functions

-- whatever is around: the step is the code's own
abbrev pub IsOwn : Active → Active → Body → Body → Type 0
IsOwn before after b new =
    ((around : Around) → step (flat b before around) ≡ Goes (flat new after around) quiet) × IsWhole new (isa_of after) × (callers_of new ≡ callers_of b)

-- why code stopped, where a gate stands or not
abbrev pub stopped_at : Bool → Code
stopped_at true = Gate
stopped_at false = Stop

-- or one of the host or of a gate, before which nothing has changed
abbrev pub Codes : Code → Fault → Active → Active → Body → Body → Type 0
Codes Goes_on cell before after b new = IsOwn before after b new
Codes Leave cell before after b new =
    ((around : Around) → step (flat b before around) ≡ leaves_code before (flat b before around) cell.detail) × IsNumber before cell.detail × (after ≡ before) × (new ≡ b)
Codes Stop cell before after b new = ((around : Around) → step (flat b before around) ≡ Faults cell) × (after ≡ before) × (new ≡ b)
Codes Gate cell before after b new = ((around : Around) → step (flat b before around) ≡ at_gate (flat b before around)) × (after ≡ before) × (new ≡ b)

-- so many steps, each the code's own
abbrev pub AreOwn : ℕ → Active → Active → Body → Body → Type 0
AreOwn zero before after b new = (after ≡ before) × (new ≡ b)
AreOwn (suc k) before after b new = (mid : Active) × (at : Body) × AreOwn k before mid b at × IsOwn mid after at new

-- what the code did after so many of them
pub record CodesAfter (k : ℕ) (code : Code) (cell : Fault) (before after : Active) (b new : Body) : Type 0 where
  pub active : Active
  pub body : Body
  pub own : AreOwn k before active b body
  pub last : Codes code cell active after body new
