-- The list gets shorter.
use Rattle.std.proofs.Common.{length}
use Rattle.m68_movement.proofs.along.+can_store_along.Given as goal

abbrev pub decreases-can_store_along : goal.decreases-can_store_along
decreases-can_store_along l = length l.values.now
