-- One step further.
use Rattle.std.proofs.Common.{◌≡◌, ◌<◌, ◌≤◌, suc, ◌∙◌, arith}
use Rattle.gdb_steps.specs.Walkers.{points_of, run_of}
use Rattle.gdb_steps.proofs.Backward.{moved-join}
use Rattle.gdb_steps.proofs.Overlooking.{looked, looks-new, looks-on, within-more}
use Rattle.gdb_steps.proofs.walker.Walker.look_over.Goals as goal

pub steps-preserved-in-Some : goal.steps-preserved-in-Some
steps-preserved-in-Some g c =
    let one : c.pass.new.self.steps ≡ suc c.steps.self.steps = c.in_ok-halt.ensures.passes.steps in
    let less : c.steps.self.steps < c.args.high = c.steps-test.true in
    let later : c.args.self.now.steps ≤ c.steps.self.steps = c.steps.invariant.more in
    record {
      few = omega (arith, one, less);
      more = omega (arith, one, later);
      moved = moved-join (run_of c.args.self.now) (run_of c.steps.self) (run_of c.pass.new.self) c.steps.invariant.moved c.in_ok-halt.ensures.passes.moved;
      between = (later, omega (arith, one));
      last = looks-new (points_of c.args.self.now) (points_of c.steps.self) c.args.until (run_of c.args.self.now) (run_of c.steps.self) (run_of c.pass.new.self) c.in_ok-halt.field-0 c.in-Some.halt
          c.steps.invariant.points c.in-Some.is later c.steps.invariant.moved c.in_ok-halt.ensures.passes;
      devices = c.pass.ensures.devices ∙ c.steps.invariant.devices;
      points = c.pass.ensures.points ∙ c.steps.invariant.points;
    }

pub steps-preserved : goal.steps-preserved
steps-preserved g c =
    let one : c.pass.new.self.steps ≡ suc c.steps.self.steps = c.in_ok-halt.ensures.passes.steps in
    let less : c.steps.self.steps < c.args.high = c.steps-test.true in
    let later : c.args.self.now.steps ≤ c.steps.self.steps = c.steps.invariant.more in
    record {
      few = omega (arith, one, less);
      more = omega (arith, one, later);
      moved = moved-join (run_of c.args.self.now) (run_of c.steps.self) (run_of c.pass.new.self) c.steps.invariant.moved c.in_ok-halt.ensures.passes.moved;
      between = within-more c.args.self.now.steps c.steps.self.steps c.pass.new.self.steps c.steps.found one c.steps.invariant.between;
      last = looks-on (points_of c.args.self.now) (points_of c.steps.self) c.args.until (run_of c.args.self.now) (run_of c.steps.self) (run_of c.pass.new.self) c.steps.found c.in_ok-halt.field-0
          c.steps.invariant.points c.in_default.is c.steps.invariant.moved c.in_ok-halt.ensures.passes c.steps.invariant.last;
      devices = c.pass.ensures.devices ∙ c.steps.invariant.devices;
      points = c.pass.ensures.points ∙ c.steps.invariant.points;
    }

pub returns-clause-looks : goal.returns-clause-looks
returns-clause-looks g c =
    let few = c.steps.invariant.few in
    let more = c.steps-test.false in
    looked (points_of c.args.self.now) c.args.until c.args.high (run_of c.args.self.now) (run_of c.steps.self) c.steps.found c.steps.invariant.moved (omega (arith, few, more)) c.steps.invariant.between c.steps.invariant.last
