use Rattle.std.proofs.Common.{◌-◌}
use Rattle.pef_head.specs.inner.Owners.{AllOwned}
use Rattle.pef_head.proofs.owners.lost_symbol.Given as goal

abbrev pub invariant-loop-from : goal.invariant-loop-from
invariant-loop-from l = AllOwned l.bytes l.l 0 l.from

abbrev pub decreases-loop-from : goal.decreases-loop-from
decreases-loop-from l = l.l.symbols - l.from
