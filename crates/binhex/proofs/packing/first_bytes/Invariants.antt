-- The bytes so far.
use Rattle.std.proofs.Common.{◌≡◌}
use Rattle.binhex.specs.Packing.{bytes_below}
use Rattle.binhex.proofs.packing.first_bytes.Given as goal

abbrev pub invariant-loop-j : goal.invariant-loop-j
invariant-loop-j l = l.bytes.items ≡ bytes_below l.symbols l.j
