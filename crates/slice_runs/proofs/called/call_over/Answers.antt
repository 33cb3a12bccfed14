-- What the objects tell.
use Rattle.slice_runs.proofs.called.call_over.Goals as goal

pub returns-clause-called : goal.returns-clause-called
returns-clause-called g c = c.call_among.ensures.called _ _ c.in_ok-shelf.ensures.files c.in_ok-streams.ensures.left
