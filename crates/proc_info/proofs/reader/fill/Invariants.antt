use Rattle.std.proofs.Common.{◌-◌}
use Rattle.proc_info.proofs.Params.{IsFilling}
use Rattle.proc_info.proofs.reader.fill.Given as goal

abbrev pub invariant-loop-left : goal.invariant-loop-left
invariant-loop-left l = IsFilling l.shape l.most l.v l.list l.count l.left

abbrev pub decreases-loop-left : goal.decreases-loop-left
decreases-loop-left l = l.most - l.count
