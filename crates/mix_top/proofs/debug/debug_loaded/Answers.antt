-- The script, or the refusal of the program, is a way to end.
use Rattle.std.proofs.Common.{None, refl}
use Rattle.mix_top.specs.Ends.LoadWay.{loaded}
use Rattle.mix_top.proofs.Ways.{ends-unloaded}
use Rattle.mix_top.proofs.debug.debug_loaded.Goals as goal

pub returns-in-Ok-clause-ends : goal.returns-in-Ok-clause-ends
returns-in-Ok-clause-ends g c = λ k.
    let own = c.debug_program.ensures.ends k in record { accounted = own.accounted; way = loaded c.in-Ok.program c.in-Ok.ensures.is own.way }

pub returns-in-Err-clause-ends : goal.returns-in-Err-clause-ends
returns-in-Err-clause-ends g c = λ k. ends-unloaded None c.args.job c.args.files.now _ _ _ c.in-Err.error _ _ c.without_steps.ensures.status c.without_steps.ensures.steps refl refl c.in-Err.ensures.is c.close_unloaded.ensures
