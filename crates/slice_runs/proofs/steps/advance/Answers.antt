-- The ways to end.
use Rattle.std.proofs.Common.{refl, rules}
use Rattle.slice_runs.specs.Advanced.Advanced.{advanced, no_memory, refused}
use Rattle.slice_runs.proofs.steps.advance.Goals as goal

pub returns-in-Ok-advance_beside-clause-advanced : goal.returns-in-Ok-advance_beside-clause-advanced
returns-in-Ok-advance_beside-clause-advanced c =
    advanced c.in-Ok.machine c.in-Ok.ensures.whole c.in-Ok.ensures.spelled c.in-Ok-advance_beside.ensures.ran

pub returns-in-Err-advance_beside-clause-advanced : goal.returns-in-Err-advance_beside-clause-advanced
returns-in-Err-advance_beside-clause-advanced c =
    let left = c.in-Err-advance_beside.ensures.left in
    no_memory refl (search rules)
    (record { bytes = left.put.bytes; count = search rules })
    (record { bytes = left.traced.bytes; count = search rules })
    (record { bytes = left.saved.bytes; count = search rules })

pub returns-in-Err-clause-advanced : goal.returns-in-Err-clause-advanced
returns-in-Err-clause-advanced c =
    refused c.in-Err.error c.in-Err.ensures.exact c.status_of.ensures refl
    (record { bytes = refl; count = search rules })
    (record { bytes = refl; count = search rules })
    (record { bytes = refl; count = search rules })
