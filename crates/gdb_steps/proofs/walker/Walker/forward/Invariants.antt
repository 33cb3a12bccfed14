-- One step after the other.
use Rattle.std.proofs.Common.{◌≡◌, ◌-◌, ◌≤◌, All}
use Rattle.mix_io.specs.StreamsClauses.{output}
use Rattle.dev_rack.specs.Accounts.{Accounts}
use Rattle.gdb_steps.specs.Places.{Begin, IsRun}
use Rattle.gdb_steps.specs.Walkers.{points_of, run_of, sinks}
use Rattle.gdb_steps.specs.inner.Goings.{Going}
use Rattle.gdb_steps.specs.inner.Looks.{HasSeen}
use Rattle.gdb_steps.proofs.walker.Walker.forward.Given as goal

abbrev pub decreases-steps : goal.decreases-steps
decreases-steps g l = l.last - l.self.steps

abbrev pub invariant-steps : goal.invariant-steps
invariant-steps g l = record {
  few : l.self.steps ≤ l.last;
  seen : All (HasSeen l.self.debug.machine.body.ram.bytes) l.self.watches;
  points : points_of l.self ≡ points_of l.fn.self;
  devices : Accounts l.fn.self.real l.self.real;
  going : (b : Begin) → IsRun b (run_of l.fn.self)
      → Going b (points_of l.fn.self) l.until (l.last - l.fn.self.steps) (l.last - l.self.steps) (run_of l.fn.self) (run_of l.self)
      (sinks (output (g.O.Sink.held l.initial.out) (g.O.Sink.faults l.initial.out)) (output (g.T.Sink.held l.initial.trace) (g.T.Sink.faults l.initial.trace)))
      (sinks (output (g.O.Sink.held l.out) (g.O.Sink.faults l.out)) (output (g.T.Sink.held l.trace) (g.T.Sink.faults l.trace)));
}
