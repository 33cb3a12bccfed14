use Rattle.pef_head.specs.inner.Owners.{AllOwned}
use Rattle.pef_head.proofs.owners.first_lost.Given as goal

abbrev pub invariant-loop-i : goal.invariant-loop-i
invariant-loop-i l = AllOwned l.fn.bytes l.fn.l l.from l.i
