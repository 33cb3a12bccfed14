-- Steps back, and then what is told of them.
use Rattle.mix_top.specs.Events.{backward}
use Rattle.mix_top.proofs.Telling.{does-walk, walks-beside}
use Rattle.mix_top.proofs.play.go_back.Goals as goal

pub returns-clause-does : goal.returns-clause-does
returns-clause-does g c = does-walk (backward c.args.count) c.walk_back-walked.result _ _ _ _ (walks-beside (backward c.args.count) c.walk_back-walked.result _ _ _ _ c.walk_back-walked.ensures) c.tell.ensures.does
