-- One gap after the other.
use Rattle.std.proofs.Common.{◌≡◌, None}
use Rattle.gdb_steps.specs.Walkers.{points_of, run_of}
use Rattle.gdb_steps.specs.inner.Backing.{Backed}
use Rattle.gdb_steps.proofs.walker.Walker.back_far.Given as goal

abbrev pub decreases-gaps : goal.decreases-gaps
decreases-gaps g l = l.self.steps

abbrev pub invariant-gaps : goal.invariant-gaps
invariant-gaps g l = record {
  backed : Backed (points_of l.fn.self) l.until l.low (run_of l.fn.self) (run_of l.self) None;
  devices : l.self.real ≡ l.fn.self.real;
  points : points_of l.self ≡ points_of l.fn.self;
}
