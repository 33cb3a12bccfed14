-- None of the bytes before is of the kind.
use Rattle.std.proofs.Common.{◌≡◌, drop}
use Rattle.look_why.specs.Kinds.{has}
use Rattle.look_why.proofs.kind.Kind.is_in.Given as goal

abbrev pub invariant-loop-byte : goal.invariant-loop-byte
invariant-loop-byte l = has l.self (drop l.byte-index l.bytes) ≡ has l.self l.bytes
