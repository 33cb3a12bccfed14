-- A step more, or the one at which the run stopped.
use Rattle.dev_rack.proofs.Steps.{accounts-join}
use Rattle.look_commands.proofs.Cuts.{cut-begins, stopped, went-on}
use Rattle.look_commands.proofs.run.run_keeping.Goals as goal

pub steps-init : goal.steps-init
steps-init g c = cut-begins _ c.requires

pub steps-preserved : goal.steps-preserved
steps-preserved g c =
    went-on _ _ _ _ _ c.if-ends.ensures c.steps.invariant c.run-stop.ensures.whole c.run-stop.ensures.run c.run-stop.ensures.blames c.run-stop.ensures.devices

pub returns-then-ends-clause-run : goal.returns-then-ends-clause-run
returns-then-ends-clause-run g c =
    stopped _ _ _ _ _ _ _ _ c.steps-test.true c.ended.ensures.done c.ended.ensures.stop c.if-ends.ensures c.steps.invariant c.run-stop.ensures.run c.run-stop.ensures.devices

pub returns-then-ends-clause-devices : goal.returns-then-ends-clause-devices
returns-then-ends-clause-devices g c = accounts-join _ _ _ c.steps.invariant.devices c.run-stop.ensures.devices
