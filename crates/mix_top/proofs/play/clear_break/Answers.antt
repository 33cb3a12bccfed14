use Rattle.mix_top.proofs.Telling.{does-cleared}
use Rattle.mix_top.proofs.play.clear_break.Goals as goal

pub returns-clause-does : goal.returns-clause-does
returns-clause-does g c = does-cleared c.args.a c.clear_break-done.result _ _ _ _ _ _ c.clear_break-done.ensures.exact c.clear_break-done.ensures.after c.tell_answer.ensures
