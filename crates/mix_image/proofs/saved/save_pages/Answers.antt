use Rattle.std.proofs.Common.{◌≡◌, ◌+◌, ◌-◌, ◌*◌, ◌/◌, ◌<◌, ◌++◌, length, take, drop, arith, ap, sym, subst, ◌∙◌}
use Rattle.std.proofs.lemmas.Result.{err_from_is_err_and}
use Rattle.mix_image.specs.Spelling.{page, pages}
use Rattle.mix_image.proofs.Saving.{IsSaving, no-pages-bytes, pages-piece, pages-rest, saved-front, saving-more, saving-none}
use Rattle.mix_image.proofs.saved.save_pages.Goals as goal

pub each-init : goal.each-init
each-init g c =
    subst (λ l. IsSaving (g.K.Keeper.kept c.args.keep.now) (g.K.Keeper.kept c.args.keep.now) (g.K.Keeper.faults c.args.keep.now) (g.K.Keeper.faults c.args.keep.now) c.args.name.now l) (sym (no-pages-bytes c.args.bytes.now))
    (saving-none (g.K.Keeper.kept c.args.keep.now) (g.K.Keeper.faults c.args.keep.now) c.args.name.now)

pub returns-in_err-save_page-clause-bytes : goal.returns-in_err-save_page-clause-bytes
returns-in_err-save_page-clause-bytes g c =
    let p = err_from_is_err_and c.from_residual.result c.from_residual.ensures.1 in
    let bytes = c.args.bytes.now in
    let k = c.each.k in
    let size : 1024 * c.each.k + 1024 - 1024 * c.each.k ≡ 1024 = omega arith in
    let less : c.each.k < length c.args.bytes.now / 1024 = omega arith in
    let rest = pages-rest bytes k (length bytes / 1024) less in
    rw p.1 (saved-front (g.K.Keeper.kept c.args.keep.now) (g.K.Keeper.kept c.each.keep) (g.K.Keeper.kept c.save_page.new.keep) (g.K.Keeper.faults c.args.keep.now) (g.K.Keeper.faults c.each.keep) c.args.name.now
    (pages k bytes) (page (take (1024 * k + 1024 - 1024 * k) (drop (1024 * k) bytes))) rest.0 (pages (length bytes / 1024) bytes) p.0 c.each.invariant c.in_err-save_page.ensures.bytes
    (rest.1 ∙ ap (λ n. (pages k bytes ++ page (take n (drop (1024 * k) bytes))) ++ rest.0) (sym size)))

pub each-preserved : goal.each-preserved
each-preserved g c =
    let bytes = c.args.bytes.now in
    let k = c.each.k in
    let size : 1024 * c.each.k + 1024 - 1024 * c.each.k ≡ 1024 = omega arith in
    subst (λ l. IsSaving (g.K.Keeper.kept c.args.keep.now) (g.K.Keeper.kept c.save_page.new.keep) (g.K.Keeper.faults c.args.keep.now) (g.K.Keeper.faults c.save_page.new.keep) c.args.name.now l)
    (ap (λ n. pages k bytes ++ page (take n (drop (1024 * k) bytes))) size ∙ pages-piece bytes k)
    (saving-more (g.K.Keeper.kept c.args.keep.now) (g.K.Keeper.kept c.each.keep) (g.K.Keeper.kept c.save_page.new.keep) (g.K.Keeper.faults c.args.keep.now) (g.K.Keeper.faults c.each.keep) (g.K.Keeper.faults c.save_page.new.keep) c.args.name.now
    (pages k bytes) (page (take (1024 * k + 1024 - 1024 * k) (drop (1024 * k) bytes))) c.each.invariant c.in_ok-save_page.ensures.bytes c.in_ok-save_page.ensures.cause)
