-- The first entry among those so far.
use Rattle.std.proofs.Common.{◌≡◌, ◌<◌}
use Rattle.std.specs.Prelude.{IfSome}
use Rattle.wrapped_forks.specs.Forks.{fork_entry}
use Rattle.wrapped_forks.proofs.apple.fork_entry.Given as goal

abbrev pub invariant-loop-k : goal.invariant-loop-k
invariant-loop-k l = record { found : l.found ≡ fork_entry l.bytes l.fork l.k; below : IfSome l.found (λ j. j < l.k) }
