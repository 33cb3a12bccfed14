-- One step back after the other.
use Rattle.std.proofs.Common.{◌≡◌, ◌≤◌}
use Rattle.gdb_steps.specs.Walkers.{points_of, run_of}
use Rattle.gdb_steps.specs.WalkersClauses.{Moved}
use Rattle.gdb_steps.proofs.walker.Walker.take_back.Given as goal

abbrev pub decreases-steps : goal.decreases-steps
decreases-steps g l = l.self.steps

abbrev pub invariant-steps : goal.invariant-steps
invariant-steps g l = record {
  few : l.steps ≤ l.self.steps;
  moved : Moved (run_of l.fn.self) (run_of l.self);
  devices : l.self.real ≡ l.fn.self.real;
  points : points_of l.self ≡ points_of l.fn.self;
}
