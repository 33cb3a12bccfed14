-- The last one so far.
use Rattle.std.proofs.Common.{◌∷◌, ◌≤◌, Contains}
use Rattle.gdb_steps.proofs.snapshots.last_of.Given as goal

abbrev pub invariant-loop-kept : goal.invariant-loop-kept
invariant-loop-kept l = Contains (l.first ∷ l.later) l.last × (l.last.steps ≤ l.steps)
