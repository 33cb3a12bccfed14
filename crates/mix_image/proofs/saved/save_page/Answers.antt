use Rattle.std.proofs.Common.{[], ◌∷◌, sym, subst, ◌∙◌}
use Rattle.mix_io.specs.KeptClauses.{Saves}
use Rattle.mix_io.proofs.Keeps.{saves-join}
use Rattle.mix_image.proofs.Saving.{full-piece}
use Rattle.mix_image.proofs.saved.save_page.Goals as goal

pub returns-in_ok-keep-clause-bytes : goal.returns-in_ok-keep-clause-bytes
returns-in_ok-keep-clause-bytes g c =
    subst (λ l. Saves (g.K.Keeper.kept c.args.keep.now) (g.K.Keeper.kept c.keep-else-is_blank-2.new.self) c.args.name.now l c.keep-else-is_blank-2.result)
    (full-piece c.args.page.now (sym c.is_blank.ensures ∙ c.if-is_blank.false))
    (saves-join (g.K.Keeper.kept c.args.keep.now) (g.K.Keeper.kept c.keep-else-is_blank.new.self) (g.K.Keeper.kept c.keep-else-is_blank-2.new.self) c.args.name.now (1 ∷ []) c.args.page.now c.keep-else-is_blank-2.result c.in_ok-keep.ensures.bytes c.keep-else-is_blank-2.ensures.bytes)
