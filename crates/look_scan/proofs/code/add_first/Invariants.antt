-- The traps among the words so far.
use Rattle.std.proofs.Common.{◌≡◌, ◌++◌}
use Rattle.look_scan.specs.Code.{traps_below}
use Rattle.look_scan.proofs.code.add_first.Given as goal

abbrev pub invariant-loop-k : goal.invariant-loop-k
invariant-loop-k l = l.traps.items ≡ l.initial.traps.items ++ traps_below l.code l.k
