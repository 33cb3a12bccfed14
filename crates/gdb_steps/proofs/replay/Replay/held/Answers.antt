-- Slots that hold a device, as they are seen.
use Rattle.std.proofs.Common.{ap}
use Rattle.dev_rack.specs.Rack.{State}
use Rattle.gdb_steps.proofs.Slotting.{seen-held}
use Rattle.gdb_steps.proofs.replay.Replay.held.Goals as goal

pub returns : goal.returns
returns c = seen-held _ _ c.args.self.now.slots c.held_in.result c.deref.ensures.value (ap (λ (s : State). s.slots) c.self.view_is) c.held_in.ensures
