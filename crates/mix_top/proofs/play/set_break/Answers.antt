use Rattle.mix_top.proofs.Telling.{does-set}
use Rattle.mix_top.proofs.play.set_break.Goals as goal

pub returns-clause-does : goal.returns-clause-does
returns-clause-does g c = does-set c.args.a c.set_break-done.result _ _ _ _ _ _ c.set_break-done.ensures.exact c.set_break-done.ensures.after c.tell_answer.ensures
