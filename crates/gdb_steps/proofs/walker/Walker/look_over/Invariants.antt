-- One step after the other is looked at.
use Rattle.std.proofs.Common.{◌≡◌, ◌-◌, ◌<◌, ◌≤◌, IfSome}
use Rattle.gdb_steps.specs.Places.{Begin, IsRun}
use Rattle.gdb_steps.specs.Walkers.{points_of, run_of}
use Rattle.gdb_steps.specs.WalkersClauses.{Moved}
use Rattle.gdb_steps.specs.inner.Backing.{IsLast}
use Rattle.gdb_steps.proofs.walker.Walker.look_over.Given as goal

abbrev pub decreases-steps : goal.decreases-steps
decreases-steps g l = l.high - l.self.steps

abbrev pub invariant-steps : goal.invariant-steps
invariant-steps g l = record {
  few : l.self.steps ≤ l.high;
  more : l.fn.self.steps ≤ l.self.steps;
  moved : Moved (run_of l.fn.self) (run_of l.self);
  between : IfSome l.found (λ f. (l.fn.self.steps ≤ f.steps) × (f.steps < l.self.steps));
  last : (b : Begin) → IsRun b (run_of l.fn.self) → IsLast b (points_of l.fn.self) l.until (run_of l.fn.self).given l.fn.self.steps l.self.steps l.found;
  devices : l.self.real ≡ l.fn.self.real;
  points : points_of l.self ≡ points_of l.fn.self;
}
