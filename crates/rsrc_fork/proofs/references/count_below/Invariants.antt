use Rattle.std.proofs.Common.{◌≡◌, ◌≤◌, ◌*◌}
use Rattle.rsrc_fork.specs.ReferencesClauses.{count_below}
use Rattle.rsrc_fork.proofs.references.count_below.Given as goal

abbrev pub invariant-loop-k : goal.invariant-loop-k
invariant-loop-k l = (l.total ≡ count_below l.bytes l.areas l.list l.k) × (l.total ≤ 65536 * l.k)
