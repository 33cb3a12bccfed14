use Rattle.std.proofs.Common.{◌<◌, ◌≤◌}
use Rattle.pef_head.specs.inner.Owners.{Marked}
use Rattle.pef_head.specs.Owners.{owners}
use Rattle.pef_head.proofs.owners.lost_in.Given as goal

abbrev pub invariant-loop-j : goal.invariant-loop-j
invariant-loop-j l = record {
  marked : Marked l.bytes l.l l.j l.from l.limit l.marks;
  low : l.from ≤ l.limit;
  high : l.limit ≤ l.to;
  twice : l.limit < l.to → 2 ≤ owners l.bytes l.l l.j l.limit;
}
