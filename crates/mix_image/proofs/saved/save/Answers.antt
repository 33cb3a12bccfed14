use Rattle.std.proofs.Common.{◌/◌, ◌++◌, length, Err, sym, subst}
use Rattle.std.proofs.lemmas.Result.{err_from_is_err_and}
use Rattle.big_memory.specs.Numbers.{bytes_of_longs}
use Rattle.mix_io.specs.Kept.{KeepsMore}
use Rattle.mix_io.specs.KeptClauses.{Saves}
use Rattle.mix_io.proofs.Keeps.{saves-front, saves-join}
use Rattle.mix_image.specs.Spelling.{block_longs, head_longs, pages, tail_longs}
use Rattle.mix_image.proofs.Saving.{spell-parts}
use Rattle.mix_image.proofs.saved.save.Goals as goal

pub returns-in_err-save_head-clause-bytes : goal.returns-in_err-save_head-clause-bytes
returns-in_err-save_head-clause-bytes g c =
    let p = err_from_is_err_and c.from_residual.result c.from_residual.ensures.1 in
    let m = c.args.m.now in
    let rest = bytes_of_longs (block_longs m.body.heap.blocks) ++ (bytes_of_longs (tail_longs m) ++ pages (length m.body.ram.bytes / 1024) m.body.ram.bytes) in
    rw p.1 (subst (λ l. Saves (g.K.Keeper.kept c.args.keep.now) (g.K.Keeper.kept c.save_head.new.keep) c.args.name.now l (Err p.0)) (sym (spell-parts m))
    (saves-front (g.K.Keeper.kept c.args.keep.now) (g.K.Keeper.kept c.save_head.new.keep) c.args.name.now (bytes_of_longs (head_longs m)) rest p.0 c.in_err-save_head.ensures.bytes))

pub returns-in_err-save_blocks-clause-bytes : goal.returns-in_err-save_blocks-clause-bytes
returns-in_err-save_blocks-clause-bytes g c =
    let p = err_from_is_err_and c.from_residual-in_err-save_blocks.result c.from_residual-in_err-save_blocks.ensures.1 in
    let m = c.args.m.now in
    let name = c.args.name.now in
    let a = g.K.Keeper.kept c.args.keep.now in
    let b = g.K.Keeper.kept c.save_head.new.keep in
    let d = g.K.Keeper.kept c.save_blocks.new.keep in
    let blocks = bytes_of_longs (block_longs m.body.heap.blocks) in
    let rest = bytes_of_longs (tail_longs m) ++ pages (length m.body.ram.bytes / 1024) m.body.ram.bytes in
    let own = subst (λ bs. Saves b d name (bytes_of_longs (block_longs bs)) (Err p.0)) c.blocks-2.ensures c.in_err-save_blocks.ensures.bytes in
    rw p.1 (subst (λ l. Saves a d name l (Err p.0)) (sym (spell-parts m))
    (saves-join a b d name (bytes_of_longs (head_longs m)) (blocks ++ rest) (Err p.0) c.in_ok-save_head.ensures.bytes (saves-front b d name blocks rest p.0 own)))

pub returns-in_err-save_registers-clause-bytes : goal.returns-in_err-save_registers-clause-bytes
returns-in_err-save_registers-clause-bytes g c =
    let p = err_from_is_err_and c.from_residual-in_err-save_registers.result c.from_residual-in_err-save_registers.ensures.1 in
    let m = c.args.m.now in
    let name = c.args.name.now in
    let a = g.K.Keeper.kept c.args.keep.now in
    let b = g.K.Keeper.kept c.save_head.new.keep in
    let d = g.K.Keeper.kept c.save_blocks.new.keep in
    let e = g.K.Keeper.kept c.save_registers.new.keep in
    let blocks = bytes_of_longs (block_longs m.body.heap.blocks) in
    let tail = bytes_of_longs (tail_longs m) in
    let last = pages (length m.body.ram.bytes / 1024) m.body.ram.bytes in
    let own = subst (λ bs. KeepsMore b d name (bytes_of_longs (block_longs bs))) c.blocks-2.ensures c.in_ok-save_blocks.ensures.bytes in
    rw p.1 (subst (λ l. Saves a e name l (Err p.0)) (sym (spell-parts m))
    (saves-join a b e name (bytes_of_longs (head_longs m)) (blocks ++ (tail ++ last)) (Err p.0) c.in_ok-save_head.ensures.bytes
    (saves-join b d e name blocks (tail ++ last) (Err p.0) own (saves-front d e name tail last p.0 c.in_err-save_registers.ensures.bytes))))

pub returns-clause-bytes : goal.returns-clause-bytes
returns-clause-bytes g c =
    let m = c.args.m.now in
    let name = c.args.name.now in
    let result = c.save_pages.result in
    let a = g.K.Keeper.kept c.args.keep.now in
    let b = g.K.Keeper.kept c.save_head.new.keep in
    let d = g.K.Keeper.kept c.save_blocks.new.keep in
    let e = g.K.Keeper.kept c.save_registers.new.keep in
    let f = g.K.Keeper.kept c.save_pages.new.keep in
    let blocks = bytes_of_longs (block_longs m.body.heap.blocks) in
    let tail = bytes_of_longs (tail_longs m) in
    let last = pages (length m.body.ram.bytes / 1024) m.body.ram.bytes in
    let own = subst (λ bs. KeepsMore b d name (bytes_of_longs (block_longs bs))) c.blocks-2.ensures c.in_ok-save_blocks.ensures.bytes in
    let paged = subst (λ xs. Saves e f name (pages (length xs / 1024) xs) result) c.bytes.ensures.is c.save_pages.ensures.bytes in
    subst (λ l. Saves a f name l result) (sym (spell-parts m))
    (saves-join a b f name (bytes_of_longs (head_longs m)) (blocks ++ (tail ++ last)) result c.in_ok-save_head.ensures.bytes
    (saves-join b d f name blocks (tail ++ last) result own (saves-join d e f name tail last result c.in_ok-save_registers.ensures.bytes paged)))
