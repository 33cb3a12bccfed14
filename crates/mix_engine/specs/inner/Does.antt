-- Steps that touch neither the input nor the devices nor the output.
use Rattle.mix_bits.specs.declared.fault.Fault.{Fault as AFault}
use Rattle.mix_io.specs.Streams.{Output}
use Rattle.switch_frame.specs.declared.active.Active.{Active}
use Rattle.switch_frame.specs.Records.{isa_of}
use Rattle.toolbox.specs.Effects.{Around}
use Rattle.mixed_machine.specs.declared.body.Body.{Body}
use Rattle.mixed_machine.specs.declared.did.Did.{Did}
use Rattle.mixed_machine.specs.declared.did.Did.TheVariants.{Next as IsNext, Call, Return, Exit, Fault, ReadFault, OutFault, TraceFault}
use Rattle.mixed_machine.specs.State.{State}
use Rattle.mixed_machine.specs.Next.{Next}
use Rattle.mixed_machine.specs.Machine.{IsWhole, callers_of, flat}
use Rattle.mixed_machine.specs.laws.Acts.{Done, Kept}
use Rattle.mixed_machine.specs.Runs.{Sinks}

abbrev pub beside : Output → Output → Sinks
beside out trace = record { out = out; trace = trace }

-- neither the input nor the output failed
abbrev pub IsInside : Did → Type 0
IsInside IsNext = Unit {0}
IsInside Call = Unit {0}
IsInside Return = Unit {0}
IsInside (Exit code) = Unit {0}
IsInside Fault = Unit {0}
IsInside ReadFault = ⊥
IsInside OutFault = ⊥
IsInside TraceFault = Unit {0}

-- a step of the definition, done or not, whatever is around and whatever the output holds
pub record Does (x : State → Next) (did : Did) (cell : AFault) (old new : Body) (before after : Active) (a b : Output) : Type 0 where
  pub whole : IsWhole new (isa_of after)
  pub callers : Kept did (callers_of old) (callers_of new)
  pub inside : IsInside did
  pub done : (around : Around) (out : Output)
      → Done (x (flat old before around)) did cell (flat old before around) (flat new after around) (beside out a) (beside out b)
