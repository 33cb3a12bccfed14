-- The end line, and then the place.
use Rattle.mix_top.proofs.Telling.{does-behind, does-behind_front, some-end, some-place, told-place}
use Rattle.mix_top.proofs.play.tell.Goals as goal

pub returns-in-Ok-clause-does : goal.returns-in-Ok-clause-does
returns-in-Ok-clause-does g c = does-behind c.args.walked.end c.args.walked.done _ _ _ _ _ _ some-end (some-place _ _) c.in-Ok.ensures (told-place _ _ _ _ _ _ c.machine.ensures.machine c.tell_place.ensures)

pub returns-in-Err-clause-does : goal.returns-in-Err-clause-does
returns-in-Err-clause-does g c = does-behind_front c.args.walked.end c.args.walked.done c.in-Err.stopped _ _ _ _ some-end c.in-Err.ensures
