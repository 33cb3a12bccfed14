use Rattle.std.proofs.Common.{sym, subst, rules}
use Rattle.mixed_machine.specs.declared.stop.Stop.{Stop}
use Rattle.mix_debug.specs.TrailsClauses.{Keeps, is_done}
use Rattle.mix_debug.proofs.debug.Debug.forward.Goals as goal

pub returns-clause-keeps : goal.returns-clause-keeps
returns-clause-keeps g c = subst (λ (s : Stop). Keeps (is_done s) c.args.self.now c.forward_beside-on.new.self) (sym c.step_of.ensures.told) c.forward_beside-on.ensures.keeps

pub returns-clause-run : goal.returns-clause-run
returns-clause-run g c = let step = c.forward_beside-on.ensures.run in search rules

pub returns-clause-blames : goal.returns-clause-blames
returns-clause-blames g c = let step = c.forward_beside-on.ensures.blames in search rules

pub returns-clause-devices : goal.returns-clause-devices
returns-clause-devices g c = let step = c.forward_beside-on.ensures.devices in search rules
