-- One step after the other.
use Rattle.std.proofs.Common.{◌≡◌, true, false, ◌∙◌, arith, refl, sym}
use Rattle.mix_engine.specs.Ends.{goes_on}
use Rattle.mix_top.proofs.Walking.{going-begins, going-ends, going-off_by, going-on_by, going-there_by, limit-on}
use Rattle.mix_top.proofs.walk.walk_forward.Goals as goal

pub steps-init : goal.steps-init
steps-init g c = record { few = omega arith; cell = refl; going = going-begins _ _ _; same = (refl, refl, refl, refl) }

pub steps-preserved : goal.steps-preserved
steps-preserved g c =
    let same = c.step_once.ensures.same in
    let on : goes_on c.step_once.new.stop ≡ true = sym c.step_once.ensures.answer ∙ c.if-not-step_once.false in
    record {
      few = omega arith;
      cell = limit-on c.step_once.new.stop on;
      going = going-on_by _ _ c.steps.done _ _ _ _ c.step_once.new.stop on c.steps-test.true (λ around. sym (c.is_there.ensures around) ∙ c.if-is_there.false) c.steps.invariant.going c.step_once.ensures.step;
      same = (same.0 ∙ c.steps.invariant.same.0, same.1 ∙ c.steps.invariant.same.1, same.2 ∙ c.steps.invariant.same.2, same.3 ∙ c.steps.invariant.same.3);
    }

pub returns-then-is_there-clause-walks : goal.returns-then-is_there-clause-walks
returns-then-is_there-clause-walks g c =
    let on : goes_on c.step_once.new.stop ≡ true = sym c.step_once.ensures.answer ∙ c.if-not-step_once.false in
    going-there_by _ _ c.steps.done _ _ _ _ c.step_once.new.stop on c.steps-test.true (λ around. sym (c.is_there.ensures around) ∙ c.if-is_there.true) c.steps.invariant.going c.step_once.ensures.step

pub returns-then-not-step_once-clause-walks : goal.returns-then-not-step_once-clause-walks
returns-then-not-step_once-clause-walks g c =
    let off : goes_on c.step_once.new.stop ≡ false = sym c.step_once.ensures.answer ∙ c.if-not-step_once.true in
    going-off_by _ _ c.steps.done _ _ _ _ c.step_once.new.stop c.ended.result c.ended.ensures off c.steps-test.true c.steps.invariant.going c.step_once.ensures.step

pub returns-clause-walks : goal.returns-clause-walks
returns-clause-walks g c = going-ends _ _ c.steps.done _ _ c.steps-test.false c.steps.invariant.going
