-- None of the bytes before breaks a rule.
use Rattle.std.proofs.Common.{◌≡◌, drop, false}
use Rattle.look_why.specs.Operands.{first_rule}
use Rattle.look_why.proofs.operands.first_rule.Given as goal

abbrev pub invariant-loop-byte : goal.invariant-loop-byte
invariant-loop-byte l = first_rule l.hexadecimal l.before (drop l.byte-index l.operands) ≡ first_rule false 0 l.operands
