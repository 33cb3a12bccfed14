-- A step back, and what stops the walk there.
use Rattle.std.proofs.Common.{None, Some, sym, ◌∙◌, subst}
use Rattle.gdb_steps.specs.Places.{Run}
use Rattle.gdb_steps.specs.Walkers.{points_of, run_of}
use Rattle.gdb_steps.specs.inner.Backing.{Backed}
use Rattle.gdb_steps.proofs.Backing.{back-moved, back-points, back-sees, back-still, backed-join, backed-stop, far-result, step-backed}
use Rattle.gdb_steps.proofs.Backward.{moved-rack}
use Rattle.gdb_steps.proofs.walker.Walker.back_to.Goals as goal

pub returns-then-not-step_back-clause-walks : goal.returns-then-not-step_back-clause-walks
returns-then-not-step_back-clause-walks g c =
    far-result (points_of c.args.self.now) (points_of c.step_back.new.self) c.args.until c.args.low (run_of c.args.self.now) (run_of c.step_back.new.self) (run_of c.back_far.new.self) c.back_far.result
    (back-points (points_of c.args.self.now) c.steps.self c.step_back.new.self c.step_back.result c.step_back.ensures.back c.steps.invariant.points)
    (subst (λ (r : Run). Backed (points_of c.args.self.now) c.args.until c.args.low (run_of c.args.self.now) r None)
    (sym (back-still c.steps.self c.step_back.new.self c.step_back.result c.if-not-step_back.true c.step_back.ensures.back)) c.steps.invariant.backed) c.back_far.ensures.walks

pub returns-in-Some-clause-walks : goal.returns-in-Some-clause-walks
returns-in-Some-clause-walks g c =
    backed-stop (points_of c.args.self.now) c.args.until c.args.low (run_of c.args.self.now) (run_of c.step_back.new.self) c.in-Some.halt
    (backed-join (points_of c.args.self.now) c.args.until c.args.low (run_of c.args.self.now) (run_of c.steps.self) (run_of c.step_back.new.self) (Some c.in-Some.halt) c.steps.invariant.backed
    (step-backed (points_of c.args.self.now) c.args.until c.args.low c.steps.self c.step_back.new.self c.step_back.result (Some c.in-Some.halt) c.if-not-step_back.false c.steps-test.true c.steps.invariant.points c.steps.invariant.seen
    c.step_back.ensures.back c.step_back.ensures.old c.step_back.ensures.new (sym c.in-Some.is ∙ c.halt_here.ensures.value)))

pub steps-preserved : goal.steps-preserved
steps-preserved g c =
    let test = sym c.in_default.is ∙ c.halt_here.ensures.value in
    record {
      seen = back-sees c.args.until c.step_back.new.self test;
      backed = backed-join (points_of c.args.self.now) c.args.until c.args.low (run_of c.args.self.now) (run_of c.steps.self) (run_of c.step_back.new.self) None c.steps.invariant.backed
          (step-backed (points_of c.args.self.now) c.args.until c.args.low c.steps.self c.step_back.new.self c.step_back.result None c.if-not-step_back.false c.steps-test.true c.steps.invariant.points c.steps.invariant.seen
          c.step_back.ensures.back c.step_back.ensures.old c.step_back.ensures.new test);
      devices = moved-rack (run_of c.steps.self) (run_of c.step_back.new.self) (back-moved c.steps.self c.step_back.new.self c.step_back.result c.if-not-step_back.false c.step_back.ensures.back) ∙ c.steps.invariant.devices;
      points = back-points (points_of c.args.self.now) c.steps.self c.step_back.new.self c.step_back.result c.step_back.ensures.back c.steps.invariant.points;
    }
