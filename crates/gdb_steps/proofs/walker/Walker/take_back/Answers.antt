-- A step that is taken back leads to another place of the run.
use Rattle.std.proofs.Common.{◌≡◌, ◌≤◌, ◌<◌, suc, ap, ◌∙◌, arith}
use Rattle.gdb_steps.specs.Places.{Run}
use Rattle.gdb_steps.specs.Walkers.{points_of, run_of}
use Rattle.gdb_steps.proofs.Backing.{back-moved, back-points, back-steps, back-still}
use Rattle.gdb_steps.proofs.Backward.{moved-join, moved-rack, moved-same}
use Rattle.gdb_steps.proofs.walker.Walker.take_back.Goals as goal

pub returns-then-not-step_back-clause-moves : goal.returns-then-not-step_back-clause-moves
returns-then-not-step_back-clause-moves g c =
    moved-join (run_of c.args.self.now) (run_of c.steps.self) (run_of c.step_back.new.self) c.steps.invariant.moved
    (moved-same (run_of c.steps.self) (run_of c.step_back.new.self) (back-still c.steps.self c.step_back.new.self c.step_back.result c.if-not-step_back.true c.step_back.ensures.back))

pub returns-then-not-step_back-clause-fewer : goal.returns-then-not-step_back-clause-fewer
returns-then-not-step_back-clause-fewer g c =
    let same : c.step_back.new.self.steps ≡ c.steps.self.steps = ap (λ (x : Run). x.steps) (back-still c.steps.self c.step_back.new.self c.step_back.result c.if-not-step_back.true c.step_back.ensures.back) in
    let few : c.args.steps ≤ c.steps.self.steps = c.steps.invariant.few in
    omega (arith, same, few)

pub steps-preserved : goal.steps-preserved
steps-preserved g c =
    let moved = back-moved c.steps.self c.step_back.new.self c.step_back.result c.if-not-step_back.false c.step_back.ensures.back in
    let one : c.steps.self.steps ≡ suc c.step_back.new.self.steps = back-steps c.steps.self c.step_back.new.self c.step_back.result c.if-not-step_back.false c.step_back.ensures.back in
    let more : c.args.steps < c.steps.self.steps = c.steps-test.true in
    record {
      few = omega (arith, one, more);
      moved = moved-join (run_of c.args.self.now) (run_of c.steps.self) (run_of c.step_back.new.self) c.steps.invariant.moved moved;
      devices = moved-rack (run_of c.steps.self) (run_of c.step_back.new.self) moved ∙ c.steps.invariant.devices;
      points = back-points (points_of c.args.self.now) c.steps.self c.step_back.new.self c.step_back.result c.step_back.ensures.back c.steps.invariant.points;
    }
