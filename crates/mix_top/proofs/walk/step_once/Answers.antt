-- A step of the debugger is one of the session.
use Rattle.mix_top.proofs.Stepping.{once-does_in}
use Rattle.mix_top.proofs.walk.step_once.Goals as goal

pub returns-clause-step : goal.returns-clause-step
returns-clause-step g c =
    let step = c.forward_beside.ensures in
    once-does_in _ _ _ _ _ _ c.forward_beside.new.stop
    (record { here = c.machine-whole.ensures.whole; there = step.whole; keeps = step.keeps; breaks = step.breaks }) step.run step.blames step.devices
