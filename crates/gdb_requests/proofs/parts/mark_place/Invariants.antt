use Rattle.std.proofs.Common.{◌≡◌, ◌+◌, drop}
use Rattle.gdb_requests.specs.Parts.{span}
use Rattle.gdb_requests.proofs.parts.mark_place.Given as goal

-- no mark stands in front
abbrev pub invariant-loop-i : goal.invariant-loop-i
invariant-loop-i l = span l.mark l.text ≡ l.i + span l.mark (drop l.i l.text)
