-- No comma outside parentheses stands before.
use Rattle.std.proofs.Common.{◌≡◌, ◌+◌, drop, false}
use Rattle.asm_m68.specs.laws.Operands.{comma}
use Rattle.asm_m68.proofs.operands.comma.Given as goal

abbrev pub invariant-loop-i : goal.invariant-loop-i
invariant-loop-i l = comma false l.text ≡ l.i + comma l.inside (drop l.i l.text)
