-- One command after the other.
use Rattle.std.proofs.Common.{◌∙◌, refl}
use Rattle.mix_top.proofs.Telling.{running-begins, running-ends, running-on, running-stops}
use Rattle.mix_top.proofs.play.run_script.Goals as goal

pub commands-init : goal.commands-init
commands-init g c = record { running = running-begins _ _; same = (refl, refl, refl, refl) }

pub commands-preserved : goal.commands-preserved
commands-preserved g c =
    let same = c.in-Ok.ensures.same in
    record {
      running = running-on _ _ _ c.in-Some.command _ _ _ c.in-Some.ensures c.commands.invariant.running c.in-Ok.ensures.does;
      same = (same.0 ∙ c.commands.invariant.same.0, same.1 ∙ c.commands.invariant.same.1, same.2 ∙ c.commands.invariant.same.2, same.3 ∙ c.commands.invariant.same.3);
    }

pub returns-in-None-clause-plays : goal.returns-in-None-clause-plays
returns-in-None-clause-plays g c = running-ends _ _ _ _ c.in-None.ensures.0 c.commands.invariant.running

pub returns-in-Err-clause-plays : goal.returns-in-Err-clause-plays
returns-in-Err-clause-plays g c = running-stops _ _ _ c.in-Some.command c.in-Err.stopped _ _ _ c.in-Some.ensures c.commands.invariant.running c.in-Err.ensures.does
