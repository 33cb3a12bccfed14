-- Steps, and then what is told of them.
use Rattle.mix_top.specs.Events.{forward}
use Rattle.mix_top.proofs.Telling.{does-walk, does-walk_front}
use Rattle.mix_top.proofs.play.go_forward.Goals as goal

pub returns-in-Ok-clause-does : goal.returns-in-Ok-clause-does
returns-in-Ok-clause-does g c = does-walk (forward c.args.until c.args.count) c.in-Ok.walked _ _ _ _ c.in-Ok.ensures.walks c.tell.ensures.does

pub returns-in-Err-clause-does : goal.returns-in-Err-clause-does
returns-in-Err-clause-does g c = does-walk_front (forward c.args.until c.args.count) _ _ c.in-Err.stopped c.in-Err.ensures.walks
