use Rattle.mix_io.proofs.Pieces.{appends_more, within_rest}
use Rattle.mix_io.proofs.write.write_on.Goals as goal

pub loop-done-preserved : goal.loop-done-preserved
loop-done-preserved g c =
    (within_rest _ _ _ c.loop-done.invariant.0 c.in-Ok.ensures.bound, appends_more _ _ _ _ _ _ c.loop-done.invariant.1 c.in-Ok.ensures.bytes)
