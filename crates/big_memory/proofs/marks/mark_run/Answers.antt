use Rattle.big_memory.proofs.Packed.{put-marks}
use Rattle.big_memory.proofs.marks.mark_run.Goals as goal

pub returns : goal.returns
returns c =
    put-marks c.args.guard.now c.args.index c.args.place c.args.end c.with_run.result c.args.on c.requires.index c.requires.order c.requires.within
    c.with_run.ensures.inside c.with_run.ensures.below c.with_run.ensures.above
