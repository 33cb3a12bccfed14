use Rattle.std.proofs.Common.{◌-◌}
use Rattle.mix_debug.specs.inner.WrittenBack.{Covers}
use Rattle.mix_debug.proofs.compare.skip_front.Given as goal

abbrev pub decreases-front : goal.decreases-front
decreases-front l = l.range.high - l.low

abbrev pub invariant-front : goal.invariant-front
invariant-front l = Covers l.low l.range.high l.old l.new
