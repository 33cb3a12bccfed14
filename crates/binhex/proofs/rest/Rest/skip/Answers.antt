use Rattle.std.proofs.Common.{◌∙◌, sym}
use Rattle.binhex.proofs.Rests.{passed_one}
use Rattle.binhex.proofs.rest.Rest.skip.Goals as goal

pub loop-preserved : goal.loop-preserved
loop-preserved c = passed_one _ _ c.loop.counter _ (sym c.loop.invariant ∙ c.next.ensures)
