-- None of the bytes before is a digit behind a #.
use Rattle.std.proofs.Common.{◌≡◌, drop}
use Rattle.look_why.specs.Operands.{has_decimal}
use Rattle.look_why.proofs.operands.has_decimal.Given as goal

abbrev pub invariant-loop-byte : goal.invariant-loop-byte
invariant-loop-byte l = has_decimal l.before (drop l.byte-index l.operands) ≡ has_decimal 0 l.operands
