use Rattle.std.proofs.Common.{[], ◌∷◌, Err, ap, sym, subst, ◌∙◌}
use Rattle.std.proofs.lemmas.Result.{err_from_is_err_and}
use Rattle.big_memory.specs.Numbers.{bytes_of_longs}
use Rattle.switch_frame.specs.Records.{longs_of_file}
use Rattle.mix_io.specs.KeptClauses.{Saves}
use Rattle.mix_io.proofs.Keeps.{saves-front, saves-join}
use Rattle.mix_image.specs.Spelling.{set_number}
use Rattle.mix_image.proofs.Saving.{tail-parts}
use Rattle.mix_image.proofs.saved.save_registers.Goals as goal

pub returns-in_err-save_longs-clause-bytes : goal.returns-in_err-save_longs-clause-bytes
returns-in_err-save_longs-clause-bytes g c =
    let p = err_from_is_err_and c.from_residual.result c.from_residual.ensures.1 in
    let m = c.args.m.now in
    let parts = tail-parts m c.set_number.result (c.set_number.ensures ∙ ap set_number c.isa.ensures) in
    rw p.1 (subst (λ l. Saves (g.K.Keeper.kept c.args.keep.now) (g.K.Keeper.kept c.save_longs.new.keep) c.args.name.now l (Err p.0)) (sym parts)
    (saves-front (g.K.Keeper.kept c.args.keep.now) (g.K.Keeper.kept c.save_longs.new.keep) c.args.name.now (bytes_of_longs (m.body.top ∷ c.set_number.result ∷ [])) (bytes_of_longs (longs_of_file m.active)) p.0 c.in_err-save_longs.ensures.bytes))

pub returns-clause-bytes : goal.returns-clause-bytes
returns-clause-bytes g c =
    let m = c.args.m.now in
    let parts = tail-parts m c.set_number.result (c.set_number.ensures ∙ ap set_number c.isa.ensures) in
    subst (λ l. Saves (g.K.Keeper.kept c.args.keep.now) (g.K.Keeper.kept c.save_file.new.keep) c.args.name.now l c.save_file.result) (sym parts)
    (saves-join (g.K.Keeper.kept c.args.keep.now) (g.K.Keeper.kept c.save_longs.new.keep) (g.K.Keeper.kept c.save_file.new.keep) c.args.name.now (bytes_of_longs (m.body.top ∷ c.set_number.result ∷ [])) (bytes_of_longs (longs_of_file m.active)) c.save_file.result
    c.in_ok-save_longs.ensures.bytes c.save_file.ensures.bytes)
