-- The same bytes are left.
use Rattle.std.proofs.Common.{◌≡◌, length}
use Rattle.binhex.specs.inner.Spread.{left}
use Rattle.binhex.proofs.rest.Rest.next.Given as goal

abbrev pub invariant-loop-self : goal.invariant-loop-self
invariant-loop-self l =
    left l.self-inside.run l.self-inside.packed.now ≡ left l.initial.self-inside.run l.initial.self-inside.packed.now

abbrev pub decreases-loop-self : goal.decreases-loop-self
decreases-loop-self l = length l.self-inside.packed.now
