-- A machine with what the outside tells, and relations over the states that it stands for.
use Rattle.mix_io.specs.Streams.{Output}
use Rattle.switch_frame.specs.declared.active.Active.{Active}
use Rattle.toolbox.specs.Calls.{Outside}
use Rattle.mixed_machine.specs.declared.body.Body.{Body}
use Rattle.mixed_machine.specs.State.{State}
use Rattle.mixed_machine.specs.Machine.{flat}
use Rattle.mixed_machine.specs.Outside.{Between}

-- a machine, and what the outside tells: input, devices and output, and the trace
pub record At : Type 0 where
  pub body : Body
  pub active : Active
  pub outside : Outside
  pub trace : Output

abbrev pub at : Body → Active → Outside → Output → At
at body active outside trace = record { body = body; active = active; outside = outside; trace = trace }

-- one on the states that a machine stands for
abbrev pub Over : (State → State → Type 0) → At → At → Type 0
Over P a b = Between P (flat a.body a.active) (flat b.body b.active) a.outside b.outside
