use Rattle.mix_debug.specs.inner.WrittenBack.{Covers}
use Rattle.mix_debug.proofs.compare.skip_back.Given as goal

abbrev pub decreases-back : goal.decreases-back
decreases-back l = l.high

abbrev pub invariant-back : goal.invariant-back
invariant-back l = Covers l.range.low l.high l.old l.new
