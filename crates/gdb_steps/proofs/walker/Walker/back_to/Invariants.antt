-- One step back after the other.
use Rattle.std.proofs.Common.{◌≡◌, All, None}
use Rattle.gdb_steps.specs.Walkers.{points_of, run_of}
use Rattle.gdb_steps.specs.inner.Backing.{Backed}
use Rattle.gdb_steps.specs.inner.Looks.{HasSeen}
use Rattle.gdb_steps.proofs.walker.Walker.back_to.Given as goal

abbrev pub decreases-steps : goal.decreases-steps
decreases-steps g l = l.self.steps

abbrev pub invariant-steps : goal.invariant-steps
invariant-steps g l = record {
  seen : All (HasSeen l.self.debug.machine.body.ram.bytes) l.self.watches;
  backed : Backed (points_of l.fn.self) l.until l.low (run_of l.fn.self) (run_of l.self) None;
  devices : l.self.real ≡ l.fn.self.real;
  points : points_of l.self ≡ points_of l.fn.self;
}
