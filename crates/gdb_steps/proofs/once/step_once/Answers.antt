-- What is left of the input is its end.
use Rattle.std.proofs.Common.{rules}
use Rattle.gdb_steps.proofs.Taking.{rest-left, step-left}
use Rattle.gdb_steps.proofs.once.step_once.Goals as goal

pub overflow_sub-result : goal.overflow_sub-result
overflow_sub-result g c = (rest-left _ c.args.taken c.args.input.now _ _ c.split_at.ensures.back c.forward_beside-on.ensures.run.run.told).few

pub returns-clause-step : goal.returns-clause-step
returns-clause-step g c =
    let step = c.forward_beside-on.ensures in
    let made = step-left c.args.debug.now c.forward_beside-on.new.self c.args.taken c.args.input.now _ _ _ _ _ _ _ _ c.forward_beside-on.new.stop c.split_at.ensures.back
    c.machine-whole.ensures.whole step.whole step.run step.blames step.devices step.keeps in
    search rules
