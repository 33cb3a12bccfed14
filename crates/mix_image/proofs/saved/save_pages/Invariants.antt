use Rattle.mix_image.specs.Spelling.{pages}
use Rattle.mix_image.proofs.Saving.{IsSaving}
use Rattle.mix_image.proofs.saved.save_pages.Given as goal

abbrev pub invariant-each : goal.invariant-each
invariant-each g l =
    IsSaving (g.K.Keeper.kept l.initial.keep) (g.K.Keeper.kept l.keep) (g.K.Keeper.faults l.initial.keep) (g.K.Keeper.faults l.keep) l.name (pages l.k l.bytes)
