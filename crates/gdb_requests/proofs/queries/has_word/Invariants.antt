use Rattle.std.proofs.Common.{◌≡◌, drop}
use Rattle.gdb_requests.specs.Queries.{has_word}
use Rattle.gdb_requests.proofs.queries.has_word.Given as goal

-- what is left decides
abbrev pub invariant-loop-i : goal.invariant-loop-i
invariant-loop-i l = has_word l.word l.text ≡ has_word l.word (drop l.i l.text)
