-- The text, or want of memory.
use Rattle.std.proofs.Common.{◌≡◌, ◌∙◌, refl, rules}
use Rattle.look_text.specs.Info.{info_of}
use Rattle.slice_runs.specs.Told.Tells.{no_memory, told}
use Rattle.slice_runs.proofs.info.explain.Goals as goal

pub returns-in-Ok-clause-tells : goal.returns-in-Ok-clause-tells
returns-in-Ok-clause-tells c =
    let text : c.deref.result.now ≡ info_of c.args.word = c.deref.ensures.value ∙ c.in-Ok.ensures in
    told refl (rw text at c.copy-told.ensures)

pub returns-in-Err-clause-tells : goal.returns-in-Err-clause-tells
returns-in-Err-clause-tells c = no_memory refl (record { bytes = refl; count = search rules })
