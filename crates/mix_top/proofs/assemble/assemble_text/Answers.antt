-- The bytes of all lines, or the first that is refused, is a way to end.
use Rattle.std.proofs.Common.{◌∙◌, refl}
use Rattle.mix_top.proofs.Ways.{ends-assembled, ends-refused}
use Rattle.mix_top.proofs.assemble.assemble_text.Goals as goal

pub returns-in-Ok-clause-ends : goal.returns-in-Ok-clause-ends
returns-in-Ok-clause-ends g c = λ k. ends-assembled c.args.set c.args.at c.args.text.now _ _ _ _ c.without_steps.ensures.status
    (record { steps = c.without_steps.ensures.steps; input = refl; rack = refl; trace = refl; keep = refl }) c.put_bytes.ensures

pub returns-in-Err-clause-ends : goal.returns-in-Err-clause-ends
returns-in-Err-clause-ends g c = λ k.
    ends-refused c.args.set c.args.at c.args.text.now _ _ c.in-Err.line _ _ _ c.without_steps-in-Err.ensures.status c.without_steps-in-Err.ensures.steps c.in-Err.ensures.refused (c.bytes.ensures ∙ c.line_text.ensures) refl refl c.close.ensures
