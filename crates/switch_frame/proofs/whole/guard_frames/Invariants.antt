use Rattle.std.proofs.Common.{length}
use Rattle.switch_frame.specs.Chain.{records}
use Rattle.switch_frame.proofs.Guarding.{IsGuarding}
use Rattle.switch_frame.proofs.whole.guard_frames.Given as goal

abbrev pub invariant-frames : goal.invariant-frames
invariant-frames l = IsGuarding l.initial.ram l.ram l.top l.lo

abbrev pub decreases-frames : goal.decreases-frames
decreases-frames l = length (records l.ram.bytes l.lo)
