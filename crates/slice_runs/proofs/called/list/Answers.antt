-- The words are those that the numbers stand for; or there was no memory for them.
use Rattle.std.proofs.Common.{map, refl, ap, ◌∙◌}
use Rattle.std.specs.String.{string_bytes}
use Rattle.slice_runs.specs.Called.Called.{no_memory}
use Rattle.slice_runs.proofs.Worded.{Called-unkept}
use Rattle.slice_runs.proofs.called.list.Goals as goal

pub returns-in-Ok-clause-called : goal.returns-in-Ok-clause-called
returns-in-Ok-clause-called c =
    Called-unkept _ _ _ _ _ _ _ _ _ _ (ap (map string_bytes) c.deref.ensures.value ∙ c.in-Ok.ensures) c.call.auto.kept c.call.ensures.called

pub returns-in-Err-clause-called : goal.returns-in-Err-clause-called
returns-in-Err-clause-called c =
    no_memory c.refuse.ensures.status c.refuse.ensures.steps (record { bytes = refl; count = c.refuse.ensures.out }) (record { bytes = refl; count = c.refuse.ensures.trace })
    (record { bytes = refl; count = c.refuse.ensures.kept })
