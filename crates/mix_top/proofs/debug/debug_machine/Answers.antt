-- The commands, or the want of memory, are a way to end.
use Rattle.std.proofs.Common.{◌∙◌, refl}
use Rattle.mix_top.specs.Debugging.MachineWay.{no_debugger}
use Rattle.mix_top.proofs.Debugging.{ends-script}
use Rattle.mix_top.proofs.Ways.{ends-memory}
use Rattle.mix_top.proofs.debug.debug_machine.Goals as goal

pub returns-in-Ok-clause-ends : goal.returns-in-Ok-clause-ends
returns-in-Ok-clause-ends g c = λ k. ends-script _ c.args.machine _ _ _ _ _ _ k c.run_script.result _ c.in-Ok.ensures (c.without_steps.ensures.status ∙ c.script_status.ensures) c.without_steps.ensures.steps c.run_script.ensures.plays

pub returns-in-Err-clause-ends : goal.returns-in-Err-clause-ends
returns-in-Err-clause-ends g c = λ k. ends-memory _ _ (λ old new result early. no_debugger early) _ _ _ _ c.without_steps-in-Err.ensures.status c.without_steps-in-Err.ensures.steps refl refl c.close_without_memory.ensures
