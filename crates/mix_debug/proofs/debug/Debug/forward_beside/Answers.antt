use Rattle.std.proofs.Common.{subst, rules}
use Rattle.mix_debug.specs.Machines.{earlier}
use Rattle.mix_debug.specs.Pasts.{entries_in}
use Rattle.mix_debug.specs.TrailsClauses.{Keeps, Trail, is_done}
use Rattle.mix_debug.proofs.Keeping.{keeps-view}
use Rattle.mix_debug.proofs.debug.Debug.forward_beside.Goals as goal

pub returns-clause-keeps : goal.returns-clause-keeps
returns-clause-keeps g c =
    let new : Trail = record { machine = c.advance.new.machine; kept = earlier c.advance.new.machine (entries_in c.advance.new.history.past); breaks = c.self.inside.breaks.items } in
    subst (λ (t : Trail). Keeps (is_done c.advance.new.stop) t new) c.self.view_is
    (keeps-view (is_done c.advance.new.stop) c.self.inside.machine c.advance.new.machine c.self.inside.history c.advance.new.history c.self.inside.breaks.items c.advance.ensures.step.keeps)

pub returns-clause-whole : goal.returns-clause-whole
returns-clause-whole g c = c.advance.ensures.step.whole

pub returns-clause-run : goal.returns-clause-run
returns-clause-run g c = let step = c.advance.ensures.step.run in search rules

pub returns-clause-blames : goal.returns-clause-blames
returns-clause-blames g c = c.advance.ensures.step.blames

pub returns-clause-devices : goal.returns-clause-devices
returns-clause-devices g c = c.advance.ensures.step.devices
