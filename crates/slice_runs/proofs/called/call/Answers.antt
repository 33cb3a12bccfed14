-- There was no memory to begin.
use Rattle.slice_runs.specs.Called.Called.{no_memory}
use Rattle.slice_runs.proofs.called.call.Goals as goal

pub returns-in-Err-clause-called : goal.returns-in-Err-clause-called
returns-in-Err-clause-called c =
    let left = c.in-Err.ensures.left in
    no_memory c.refuse.ensures.status c.refuse.ensures.steps (record { bytes = left.put.bytes; count = c.refuse.ensures.out }) (record { bytes = left.traced.bytes; count = c.refuse.ensures.trace })
    (record { bytes = left.saved.bytes; count = c.refuse.ensures.kept })
