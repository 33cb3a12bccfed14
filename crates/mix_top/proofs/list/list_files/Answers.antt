-- The listing, or the refusal, is a way to end.
use Rattle.std.proofs.Common.{None, refl}
use Rattle.mix_top.specs.Ends.LoadWay.{loaded}
use Rattle.mix_top.proofs.Ways.{ends-listed, ends-unloaded}
use Rattle.mix_top.proofs.list.list_files.Goals as goal

pub returns-in-Ok-clause-ends : goal.returns-in-Ok-clause-ends
returns-in-Ok-clause-ends g c = λ k.
    ends-listed _ _ (λ old new result listed. loaded c.in-Ok.program c.in-Ok.ensures.is listed) _ _ _ _ c.without_steps.ensures.status
    (record { steps = c.without_steps.ensures.steps; input = refl; rack = refl; trace = refl; keep = refl }) c.put_listing.ensures

pub returns-in-Err-clause-ends : goal.returns-in-Err-clause-ends
returns-in-Err-clause-ends g c = λ k.
    ends-unloaded None c.args.job c.args.files.now _ _ _ c.in-Err.error _ _ c.without_steps-in-Err.ensures.status c.without_steps-in-Err.ensures.steps refl refl c.in-Err.ensures.is
    c.close_unloaded.ensures
