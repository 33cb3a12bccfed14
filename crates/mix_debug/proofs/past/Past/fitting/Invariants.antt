-- All steps so far have room.
use Rattle.std.proofs.Common.{◌-◌}
use Rattle.mix_debug.specs.Pasts.{IsPast}
use Rattle.mix_debug.proofs.Rooms.{Walk}
use Rattle.mix_debug.proofs.past.Past.fitting.Given as goal

abbrev pub decreases-steps : goal.decreases-steps
decreases-steps l = 10700 - l.steps

abbrev pub invariant-steps : goal.invariant-steps
invariant-steps l = (past : IsPast l.self) → Walk 1048576 past.all l.steps l.left l.spans l.olds
