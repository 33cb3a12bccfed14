use Rattle.std.proofs.Common.{◌<◌, inr, arith}
use Rattle.std.proofs.lemmas.Result.{err_from_is_err_and}
use Rattle.mix_image.specs.Fields.{empty_heap}
use Rattle.mix_image.proofs.Placing.{blocks-begun, blocks-more, blocks-stop}
use Rattle.mix_image.proofs.blocks.read_blocks.Goals as goal

pub each-init : goal.each-init
each-init c = blocks-begun c.args.bytes.now (empty_heap c.args.low c.args.high) c.in_ok-heap.heap c.in_ok-heap.ensures

pub returns-in_err-read_block : goal.returns-in_err-read_block
returns-in_err-read_block c =
    let p = err_from_is_err_and c.from_residual-in_err-read_block.result c.from_residual-in_err-read_block.ensures.1 in
    let less : c.each.k < c.args.count = omega arith in
    rw (p.1, p.2) (inr (blocks-stop c.args.bytes.now (empty_heap c.args.low c.args.high) c.each.heap c.each.k c.args.count c.in_err-read_block.field-0.0 less c.each.invariant c.in_err-read_block.ensures))

pub each-preserved : goal.each-preserved
each-preserved c = blocks-more c.args.bytes.now (empty_heap c.args.low c.args.high) c.each.heap c.read_block.new.heap c.each.k c.each.invariant c.in_ok-read_block.ensures
