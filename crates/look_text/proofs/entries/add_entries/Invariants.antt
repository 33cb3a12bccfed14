-- The entries so far.
use Rattle.std.proofs.Common.{◌≡◌, ◌++◌}
use Rattle.look_text.specs.Forks.{entries_text}
use Rattle.look_text.proofs.entries.add_entries.Given as goal

abbrev pub invariant-loop-i : goal.invariant-loop-i
invariant-loop-i l = l.text.items ≡ l.initial.text.items ++ entries_text l.fork l.places l.code0 l.i
