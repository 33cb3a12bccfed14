-- The list gets shorter.
use Rattle.std.proofs.Common.{length}
use Rattle.m68_movement.proofs.along.+put_along.Given as goal

abbrev pub decreases-put_along : goal.decreases-put_along
decreases-put_along l = length l.values.now
