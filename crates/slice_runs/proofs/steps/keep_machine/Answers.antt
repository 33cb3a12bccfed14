-- The spelling stands in the buffer, or a beginning of it.
use Rattle.std.proofs.Common.{inl, inr, refl}
use Rattle.slice_runs.proofs.Keeping.{Holds-kept, IsFull-kept}
use Rattle.slice_runs.proofs.steps.keep_machine.Goals as goal

pub returns-in-Ok-clause-kept : goal.returns-in-Ok-clause-kept
returns-in-Ok-clause-kept c =
    inl (Holds-kept _ _ _ _ c.requires.fresh c.in-Ok.ensures.bytes c.copy_to.ensures.shows, c.status_at.ensures)

pub returns-in-Err-clause-kept : goal.returns-in-Err-clause-kept
returns-in-Err-clause-kept c =
    let part = c.in-Err.ensures.bytes in
    inr (
      record {
        count = part.0;
        within = part.1;
        front = Holds-kept _ _ _ _ c.requires.fresh part.2 c.copy_to.ensures.shows;
        full = IsFull-kept _ _ _ _ c.requires.fresh part.2 c.copy_to.ensures.shows c.in-Err.ensures.cause;
      },
      refl,
    )
