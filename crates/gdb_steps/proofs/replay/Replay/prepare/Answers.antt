-- The slots that were filled.
use Rattle.std.proofs.Common.{◌∙◌, ap}
use Rattle.dev_rack.specs.Rack.{State}
use Rattle.gdb_steps.proofs.Slotting.{seen-filled}
use Rattle.gdb_steps.proofs.replay.Replay.prepare.Goals as goal

pub returns-clause-slots : goal.returns-clause-slots
returns-clause-slots c =
    seen-filled c.self.inside.slots.items c.deref_mut.result.now c.fill.new.slots c.args.self.now.slots c.args.held.now c.self.inside.slots.len (ap (λ (s : State). s.slots) c.self.view_is)
    c.deref_mut.ensures.value c.fill.ensures.held (c.fill.ensures.count ∙ c.deref_mut.ensures.len)
