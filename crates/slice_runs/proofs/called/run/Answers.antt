-- The words are those that the numbers stand for; or there was no memory for them.
use Rattle.std.proofs.Common.{◌≡◌, Bool, not, map, refl, ap, ◌∙◌, subst}
use Rattle.std.specs.String.{string_bytes}
use Rattle.slice_parts.specs.Words.{run_words}
use Rattle.slice_runs.specs.Called.Called.{no_memory}
use Rattle.slice_runs.proofs.Worded.{Called-along}
use Rattle.slice_runs.proofs.called.run.Goals as goal

pub returns-in-Ok-clause-called : goal.returns-in-Ok-clause-called
returns-in-Ok-clause-called c =
    let P : Bool → Type 0 = λ is_empty. map string_bytes c.in-Ok.words.items ≡ run_words c.args.program.kind c.args.program.main c.args.program.kib c.args.steps (not is_empty) in
    let same = subst P c.is_empty.ensures c.in-Ok.ensures in
    Called-along _ _ _ _ _ _ _ _ _ (ap (map string_bytes) c.deref.ensures.value ∙ same) c.call.ensures.called

pub returns-in-Err-clause-called : goal.returns-in-Err-clause-called
returns-in-Err-clause-called c =
    no_memory c.refuse.ensures.status c.refuse.ensures.steps (record { bytes = refl; count = c.refuse.ensures.out }) (record { bytes = refl; count = c.refuse.ensures.trace })
    (record { bytes = refl; count = c.refuse.ensures.kept })
