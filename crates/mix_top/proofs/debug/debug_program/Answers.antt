-- The machine at the program's start is debugged.
use Rattle.std.proofs.Common.{refl}
use Rattle.mix_top.specs.Debugging.ScriptWay.{debugged, no_machine}
use Rattle.mix_top.proofs.Debugging.{ends-started}
use Rattle.mix_top.proofs.Ways.{ends-memory}
use Rattle.mix_top.proofs.debug.debug_program.Goals as goal

pub returns-in-Ok-clause-ends : goal.returns-in-Ok-clause-ends
returns-in-Ok-clause-ends g c = λ k.
    let own = ends-started _ c.args.program _ _ _ _ _ c.in-Ok.ensures.state (c.debug_machine.ensures.ends k) in record { accounted = own.0; way = debugged own.1 }

pub returns-in-Err-clause-ends : goal.returns-in-Err-clause-ends
returns-in-Err-clause-ends g c = λ k. ends-memory _ _ (λ old new result early. no_machine early) _ _ _ _ c.without_steps.ensures.status c.without_steps.ensures.steps refl refl c.close_without_memory.ensures
