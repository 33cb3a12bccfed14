use Rattle.std.proofs.Common.{◌-◌, ◌≤◌, length, take, drop, arith, sym, subst}
use Rattle.std.proofs.lemmas.Result.{err_from_is_err_and}
use Rattle.big_memory.specs.Numbers.{bytes_of_longs}
use Rattle.mix_image.specs.Spelling.{block_longs}
use Rattle.mix_image.proofs.Saving.{IsSaving, blocks-part, blocks-rest, no-longs-bytes, saved-front, saving-more, saving-none}
use Rattle.mix_image.proofs.saved.save_blocks.Goals as goal

pub each-init : goal.each-init
each-init g c =
    let begun : 0 ≤ length c.args.blocks.now = omega arith in (
      begun,
      subst (λ l. IsSaving (g.K.Keeper.kept c.args.keep.now) (g.K.Keeper.kept c.args.keep.now) (g.K.Keeper.faults c.args.keep.now) (g.K.Keeper.faults c.args.keep.now) c.args.name.now l) (sym no-longs-bytes)
          (saving-none (g.K.Keeper.kept c.args.keep.now) (g.K.Keeper.faults c.args.keep.now) c.args.name.now),
    )

pub returns-in_err-save_some-clause-bytes : goal.returns-in_err-save_some-clause-bytes
returns-in_err-save_some-clause-bytes g c =
    let p = err_from_is_err_and c.from_residual.result c.from_residual.ensures.1 in
    let xs = c.args.blocks.now in
    let done = c.each.done in
    let end = c.min-end.result in
    let low : c.each.done ≤ c.min-end.result = omega arith in
    rw p.1 (saved-front (g.K.Keeper.kept c.args.keep.now) (g.K.Keeper.kept c.each.keep) (g.K.Keeper.kept c.save_some.new.keep) (g.K.Keeper.faults c.args.keep.now) (g.K.Keeper.faults c.each.keep) c.args.name.now
    (bytes_of_longs (block_longs (take done xs))) (bytes_of_longs (block_longs (take (end - done) (drop done xs)))) (bytes_of_longs (block_longs (drop end xs))) (bytes_of_longs (block_longs xs)) p.0 c.each.invariant.1 c.in_err-save_some.ensures.bytes
    (blocks-rest xs done end low))

pub each-preserved : goal.each-preserved
each-preserved g c =
    let xs = c.args.blocks.now in
    let done = c.each.done in
    let end = c.min-end.result in
    let low : c.each.done ≤ c.min-end.result = omega arith in
    let fits : c.min-end.result ≤ length c.args.blocks.now = omega arith in (
      fits,
      subst (λ l. IsSaving (g.K.Keeper.kept c.args.keep.now) (g.K.Keeper.kept c.save_some.new.keep) (g.K.Keeper.faults c.args.keep.now) (g.K.Keeper.faults c.save_some.new.keep) c.args.name.now l) (blocks-part xs done end low)
          (saving-more (g.K.Keeper.kept c.args.keep.now) (g.K.Keeper.kept c.each.keep) (g.K.Keeper.kept c.save_some.new.keep) (g.K.Keeper.faults c.args.keep.now) (g.K.Keeper.faults c.each.keep) (g.K.Keeper.faults c.save_some.new.keep) c.args.name.now
          (bytes_of_longs (block_longs (take done xs))) (bytes_of_longs (block_longs (take (end - done) (drop done xs)))) c.each.invariant.1 c.in_ok-save_some.ensures.bytes c.in_ok-save_some.ensures.cause),
    )
