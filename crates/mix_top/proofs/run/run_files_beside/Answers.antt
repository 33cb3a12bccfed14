-- The run, or the refusal, is a way to end.
use Rattle.std.proofs.Common.{refl}
use Rattle.mix_top.specs.Ends.LoadWay.{loaded}
use Rattle.mix_top.proofs.Ways.{ends-unloaded}
use Rattle.mix_top.proofs.run.run_files_beside.Goals as goal

pub returns-in-Ok-clause-ends : goal.returns-in-Ok-clause-ends
returns-in-Ok-clause-ends g c = record { accounted = c.run_program.ensures.ends.accounted; way = loaded c.in-Ok.program c.in-Ok.ensures.is c.run_program.ensures.ends.way }

pub returns-in-Err-clause-ends : goal.returns-in-Err-clause-ends
returns-in-Err-clause-ends g c = ends-unloaded _ c.args.job c.args.files.now _ _ _ c.in-Err.error _ _ c.without_steps.ensures.status c.without_steps.ensures.steps refl refl c.in-Err.ensures.is c.close_unloaded.ensures
