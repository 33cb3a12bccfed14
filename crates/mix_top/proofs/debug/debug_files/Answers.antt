-- The first bad line, or what the commands come to, is a way to end.
use Rattle.std.proofs.Common.{◌∙◌, refl}
use Rattle.mix_top.specs.Ends.DebugWay.{lines_read}
use Rattle.mix_top.proofs.Debugging.{ends-bad_line}
use Rattle.mix_top.proofs.debug.debug_files.Goals as goal

pub returns-in-Ok-clause-ends : goal.returns-in-Ok-clause-ends
returns-in-Ok-clause-ends g c = λ k. let own = c.debug_loaded.ensures.ends k in record { accounted = own.accounted; way = lines_read _ c.in-Ok.ensures own.way }

pub returns-in-Err-clause-ends : goal.returns-in-Err-clause-ends
returns-in-Err-clause-ends g c = λ k. ends-bad_line c.args.job c.args.files.now c.args.text.now _ _ c.in-Err.bad.number _ _ _ c.without_steps.ensures.status c.without_steps.ensures.steps c.in-Err.ensures (c.bytes.ensures ∙ c.script_text.ensures) refl refl c.close.ensures
