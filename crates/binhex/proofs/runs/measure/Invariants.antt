-- What the packed bytes so far stand for.
use Rattle.std.proofs.Common.{◌^◌, ◌≤◌}
use Rattle.binhex.specs.inner.Steps.{Reaches}
use Rattle.binhex.proofs.runs.measure.Given as goal

abbrev pub invariant-loop-k : goal.invariant-loop-k
invariant-loop-k l = record { reached : Reaches l.packed l.k l.run l.count; few : l.count ≤ 2 ^ 25 }
