use Rattle.std.proofs.Common.{◌<◌, arith, ap, sym}
use Rattle.std.proofs.lemmas.Result.{err_from_is_err_and}
use Rattle.mix_image.specs.inner.Testing.{outcome}
use Rattle.mix_image.proofs.Testing.{blocks-refused, tested-more, tested-none}
use Rattle.mix_image.proofs.blocks.test_blocks.Goals as goal

pub each-init : goal.each-init
each-init c = tested-none c.args.bytes.now c.args.low c.args.high c.from-end.result c.requires.first c.requires.last c.requires.ordered c.from-end.ensures

pub returns-in_err-end : goal.returns-in_err-end
returns-in_err-end c =
    let p = err_from_is_err_and c.from_residual.result c.from_residual.ensures.1 in
    let less : c.each.k < c.args.count = omega arith in
    rw (p.1, p.2) (sym (ap outcome (blocks-refused c.args.bytes.now c.args.low c.args.high c.args.count c.each.k c.each.end c.in_err-end.field-0.0 c.each.invariant less c.requires.few c.in_err-end.ensures)))

pub each-preserved : goal.each-preserved
each-preserved c =
    let few : c.each.k < 4096 = omega arith in
    tested-more c.args.bytes.now c.args.low c.args.high c.each.k c.each.end c.in_ok-end.end c.each.invariant few c.in_ok-end.ensures
