use Rattle.mix_engine.proofs.Looping.{begins, breaks-out, breaks-read, breaks-trace, calls-back, calls-stop, exits, faults, goes-next, limits, returns as comes-back}
use Rattle.std.proofs.Common.{refl, ◌∙◌}
use Rattle.mix_engine.proofs.runs.+run_turns.Goals as goal

pub steps-init : goal.steps-init
steps-init g t c = (begins c.args.steps.now _ c.requires, refl)

pub steps-preserved-in-Next : goal.steps-preserved-in-Next
steps-preserved-in-Next g t c =
    let step = c.in-Next.ensures in
    (goes-next _ _ _ _ _ _ _ step.some step.fewer c.steps.invariant.0 step.does, step.same ∙ c.steps.invariant.1)

pub steps-preserved : goal.steps-preserved
steps-preserved g t c =
    let step = c.in-Call.ensures in
    let callee = c.in-Back.ensures in
    (calls-back _ _ _ _ _ _ _ _ _ _ step.some step.fewer c.steps.invariant.0 step.does callee.turned, callee.same ∙ (step.same ∙ c.steps.invariant.1))

pub returns-in-Stop : goal.returns-in-Stop
returns-in-Stop g t c =
    let step = c.in-Call.ensures in
    let callee = c.in-Stop.ensures in
    record {
      turned = calls-stop _ _ _ _ _ _ _ _ _ _ _ step.some step.fewer c.steps.invariant.0 step.does callee.turned;
      same = callee.same ∙ (step.same ∙ c.steps.invariant.1);
    }

pub returns-in-Return : goal.returns-in-Return
returns-in-Return g t c =
    let step = c.in-Return.ensures in
    record { turned = comes-back _ _ _ _ _ _ _ _ step.some step.fewer c.steps.invariant.0 step.does; same = step.same ∙ c.steps.invariant.1 }

pub returns-in-Exit : goal.returns-in-Exit
returns-in-Exit g t c =
    let step = c.in-Exit.ensures in
    record { turned = exits _ _ _ _ _ _ _ _ _ step.some step.fewer c.steps.invariant.0 step.does; same = step.same ∙ c.steps.invariant.1 }

pub returns-in-Fault : goal.returns-in-Fault
returns-in-Fault g t c =
    let step = c.in-Fault.ensures in
    record { turned = faults _ _ _ _ _ _ _ _ step.some step.fewer c.steps.invariant.0 step.does; same = step.same ∙ c.steps.invariant.1 }

pub returns-in-ReadFault : goal.returns-in-ReadFault
returns-in-ReadFault g t c =
    let step = c.in-ReadFault.ensures in
    record { turned = breaks-read _ _ _ _ _ _ _ _ step.some step.fewer c.steps.invariant.0 step.does; same = step.same ∙ c.steps.invariant.1 }

pub returns-in-OutFault : goal.returns-in-OutFault
returns-in-OutFault g t c =
    let step = c.in-OutFault.ensures in
    record { turned = breaks-out _ _ _ _ _ _ _ _ step.some step.fewer c.steps.invariant.0 step.does; same = step.same ∙ c.steps.invariant.1 }

pub returns-in-TraceFault : goal.returns-in-TraceFault
returns-in-TraceFault g t c =
    let step = c.in-TraceFault.ensures in
    record { turned = breaks-trace _ _ _ _ _ _ _ _ step.some step.fewer c.steps.invariant.0 step.does; same = step.same ∙ c.steps.invariant.1 }

pub returns : goal.returns
returns g t c = record { turned = limits _ _ _ _ _ c.steps-test.false c.steps.invariant.0; same = c.steps.invariant.1 }
