use Rattle.std.proofs.Common.{◌∙◌, sym}
use Rattle.binhex.proofs.Puts.{summed_one}
use Rattle.binhex.proofs.Rests.{passed_one}
use Rattle.binhex.proofs.expanded.Expanded.checksum.Goals as goal

pub loop-preserved : goal.loop-preserved
loop-preserved c = record {
  rest = passed_one _ _ c.loop.counter _ (sym c.loop.invariant.rest ∙ c.next.ensures);
  sum = c.with_byte-sum.ensures ∙ summed_one _ _ c.loop.counter _ _ (sym c.loop.invariant.rest ∙ c.next.ensures) c.loop.invariant.sum;
}
