-- One step after the other.
use Rattle.std.proofs.Common.{◌≡◌, ◌+◌, ◌-◌, ◌<◌, min, ap, subst, ◌∙◌, arith}
use Rattle.mix_io.specs.StreamsClauses.{output}
use Rattle.dev_rack.proofs.Steps.{accounts-join}
use Rattle.gdb_steps.specs.Walkers.{points_of, run_of, sinks}
use Rattle.gdb_steps.specs.Walks.{Forward}
use Rattle.gdb_steps.specs.declared.halt.Halt.TheVariants.{Spent}
use Rattle.gdb_steps.proofs.Leaving.{same-devices}
use Rattle.gdb_steps.proofs.Stepwise.{kept-going, kept-points, kept-real, kept-steps, looked-going, looked-points, looked-real, looked-steps}
use Rattle.gdb_steps.proofs.Walking.{as-many, walking-ends, walks-on, walks-stop}
use Rattle.gdb_steps.proofs.walker.Walker.forward.Goals as goal

pub steps-init : goal.steps-init
steps-init g c =
    let same = looked-steps c.args.self.now c.look.new.self c.look.ensures.beside in
    record {
      few = omega (arith, same);
      seen = c.look.ensures.seen;
      points = looked-points c.args.self.now c.look.new.self c.look.ensures.beside c.look.ensures.ranges;
      devices = same-devices _ _ (looked-real c.args.self.now c.look.new.self c.look.ensures.beside);
      going = λ b is. looked-going b (points_of c.args.self.now) c.args.until c.saturating_add-last.result c.args.self.now c.look.new.self _ c.look.ensures.beside is;
    }

pub steps-preserved : goal.steps-preserved
steps-preserved g c =
    let same = kept-steps c.steps.self c.keep.new.self c.keep.ensures.same in
    let before : c.keep.new.self.steps < c.saturating_add-last.result = (let less = c.steps-test.true in omega (arith, same, less)) in
    let one : c.step.new.self.steps ≡ c.keep.new.self.steps + 1 = c.in_default.ensures.steps in
    let points = kept-points c.steps.self c.keep.new.self c.keep.ensures.breakpoints c.keep.ensures.watches ∙ c.steps.invariant.points in
    record {
      few = omega (arith, one, before);
      seen = c.in_default.ensures.seen;
      points = c.step.ensures.points ∙ points;
      devices = accounts-join _ _ _ (accounts-join _ _ _ c.steps.invariant.devices (same-devices _ _ (kept-real c.steps.self c.keep.new.self c.keep.ensures.same))) c.step.ensures.devices;
      going = λ b is.
          let going = kept-going b (points_of c.args.self.now) c.args.until (c.saturating_add-last.result - c.args.self.now.steps) c.saturating_add-last.result (run_of c.args.self.now) c.steps.self c.keep.new.self
          _ _ c.keep.ensures.same (c.keep.ensures.kept b) (c.steps.invariant.going b is) in
          walks-on b (points_of c.args.self.now) (points_of c.keep.new.self) c.args.until (c.saturating_add-last.result - c.args.self.now.steps) c.saturating_add-last.result (run_of c.args.self.now) (run_of c.keep.new.self) (run_of c.step.new.self)
          _ _ _ before points one going (c.in_default.ensures.one b going.run);
    }

pub returns-in-Some-clause-walks : goal.returns-in-Some-clause-walks
returns-in-Some-clause-walks g c =
    λ b is.
    let same = kept-steps c.steps.self c.keep.new.self c.keep.ensures.same in
    let before : c.keep.new.self.steps < c.saturating_add-last.result = (let less = c.steps-test.true in omega (arith, same, less)) in
    let points = kept-points c.steps.self c.keep.new.self c.keep.ensures.breakpoints c.keep.ensures.watches ∙ c.steps.invariant.points in
    let going = kept-going b (points_of c.args.self.now) c.args.until (c.saturating_add-last.result - c.args.self.now.steps) c.saturating_add-last.result (run_of c.args.self.now) c.steps.self c.keep.new.self
    _ _ c.keep.ensures.same (c.keep.ensures.kept b) (c.steps.invariant.going b is) in
    let many : c.saturating_add-last.result - c.args.self.now.steps ≡ min c.args.budget (18446744073709551615 - c.args.self.now.steps) =
    as-many c.args.self.now.steps c.args.budget 18446744073709551615 c.saturating_add-last.result (c.saturating_add-last.ensures ∙ ap (λ k. min (c.args.self.now.steps + k) 18446744073709551615) c.from.ensures) in
    subst (λ n. Forward b (points_of c.args.self.now) c.args.until n c.in-Some.halt (run_of c.args.self.now) (run_of c.step.new.self)
    (sinks (output (g.O.Sink.held c.args.out.now) (g.O.Sink.faults c.args.out.now)) (output (g.T.Sink.held c.args.trace.now) (g.T.Sink.faults c.args.trace.now)))
    (sinks (output (g.O.Sink.held c.step.new.out) (g.O.Sink.faults c.step.new.out)) (output (g.T.Sink.held c.step.new.trace) (g.T.Sink.faults c.step.new.trace)))) many
    (walks-stop b (points_of c.args.self.now) (points_of c.keep.new.self) c.args.until (c.saturating_add-last.result - c.args.self.now.steps) c.saturating_add-last.result c.in-Some.halt (run_of c.args.self.now) (run_of c.keep.new.self) (run_of c.step.new.self)
    _ _ _ before points going (c.in-Some.ensures.one b going.run))

pub returns-in-Some-clause-devices : goal.returns-in-Some-clause-devices
returns-in-Some-clause-devices g c = accounts-join _ _ _ (accounts-join _ _ _ c.steps.invariant.devices (same-devices _ _ (kept-real c.steps.self c.keep.new.self c.keep.ensures.same))) c.step.ensures.devices

pub returns-clause-walks : goal.returns-clause-walks
returns-clause-walks g c =
    λ b is.
    let many : c.saturating_add-last.result - c.args.self.now.steps ≡ min c.args.budget (18446744073709551615 - c.args.self.now.steps) =
    as-many c.args.self.now.steps c.args.budget 18446744073709551615 c.saturating_add-last.result (c.saturating_add-last.ensures ∙ ap (λ k. min (c.args.self.now.steps + k) 18446744073709551615) c.from.ensures) in
    let none : c.saturating_add-last.result - c.steps.self.steps ≡ 0 = omega arith in
    subst (λ n. Forward b (points_of c.args.self.now) c.args.until n Spent (run_of c.args.self.now) (run_of c.steps.self)
    (sinks (output (g.O.Sink.held c.args.out.now) (g.O.Sink.faults c.args.out.now)) (output (g.T.Sink.held c.args.trace.now) (g.T.Sink.faults c.args.trace.now)))
    (sinks (output (g.O.Sink.held c.steps.out) (g.O.Sink.faults c.steps.out)) (output (g.T.Sink.held c.steps.trace) (g.T.Sink.faults c.steps.trace)))) many
    (walking-ends b (points_of c.args.self.now) c.args.until (c.saturating_add-last.result - c.args.self.now.steps) (c.saturating_add-last.result - c.steps.self.steps) (run_of c.args.self.now) (run_of c.steps.self) _ _ none (c.steps.invariant.going b is))
