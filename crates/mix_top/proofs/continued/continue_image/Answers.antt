-- The run of the machine, or the refusal of its image, is a way to end.
use Rattle.std.proofs.Common.{refl}
use Rattle.mix_top.specs.Continuing.ContinueWay.{continued}
use Rattle.mix_top.proofs.Ways.{ends-unrestored}
use Rattle.mix_top.proofs.continued.continue_image.Goals as goal

pub returns-in-Ok-clause-ends : goal.returns-in-Ok-clause-ends
returns-in-Ok-clause-ends g c =
    record { accounted = c.run_machine_beside.ensures.ends.accounted; way = continued c.in-Ok.machine c.in-Ok.ensures.whole c.in-Ok.ensures.spelled c.run_machine_beside.ensures.ends.way }

pub returns-in-Err-clause-ends : goal.returns-in-Err-clause-ends
returns-in-Err-clause-ends g c = ends-unrestored _ c.args.steps c.args.image.now _ _ c.in-Err.error _ _ c.in-Err.ensures.exact c.without_steps.ensures.status c.without_steps.ensures.steps refl refl c.close_unrestored.ensures
