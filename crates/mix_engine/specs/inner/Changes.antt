-- A machine whose memory and heap a step has changed, and whose frames are as before.
use Rattle.std.specs.Prelude.{◌≡◌}
use Rattle.mix_bits.specs.declared.isa.Isa.{Isa}
use Rattle.switch_frame.specs.declared.active.Active.{Active}
use Rattle.toolbox.specs.Effects.{Around}
use Rattle.mixed_machine.specs.declared.body.Body.{Body}
use Rattle.mixed_machine.specs.State.{with_seen}
use Rattle.mixed_machine.specs.Machine.{IsWhole, callers_of, flat}

-- memory and heap have changed, the frames stand as before, and the state is the old one with what was changed
pub record IsChanged (b new : Body) (set : Isa) : Type 0 where
  pub whole : IsWhole new set
  pub callers : callers_of new ≡ callers_of b
  pub state : (before after : Active) (around later : Around)
      → flat new after later ≡ record (with_seen new.ram (flat b before around)) { active = after; heap = new.heap; around = later }
