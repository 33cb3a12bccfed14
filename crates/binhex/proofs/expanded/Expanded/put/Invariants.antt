-- The bytes so far are put.
use Rattle.std.proofs.Common.{◌≡◌, ◌≤◌, ◌-◌, drop, take}
use Rattle.std.specs.Io.KnownBytes.{Appends}
use Rattle.binhex.proofs.expanded.Expanded.put.Given as goal

abbrev pub invariant-loop-done : goal.invariant-loop-done
invariant-loop-done g l = record {
  fits : l.done ≤ l.place.length;
  rest : l.rest ≡ drop l.done l.initial.rest;
  bytes : Appends (g.W.Write.contents l.initial.out) (g.W.Write.contents l.out) (take l.done l.initial.rest);
}

abbrev pub decreases-loop-done : goal.decreases-loop-done
decreases-loop-done g l = l.place.length - l.done
