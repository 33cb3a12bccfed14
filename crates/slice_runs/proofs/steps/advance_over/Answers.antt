-- What the objects tell.
use Rattle.slice_runs.proofs.steps.advance_over.Goals as goal

pub returns-clause-ran : goal.returns-clause-ran
returns-clause-ran g c = c.advance_among.ensures.ran _ c.in_ok-streams.ensures.left
