use Rattle.std.proofs.Common.{◌<◌, ◌/◌, ◌^◌, ap, sym, ◌∙◌, arith}
use Rattle.std.specs.Int.{cast_unsigned, w64}
use Rattle.ppc_alu.specs.Outcomes.{high_product}
use Rattle.ppc_alu.specs.Words.{signed}
use Rattle.ppc_alu.proofs.SignedLemmas.{product-fits, product-is}
use Rattle.ppc_alu.proofs.arith.mul_high.Goals as goal

pub overflow_mul-number : goal.overflow_mul-number
overflow_mul-number c =
    let first = c.number.ensures in
    let second = c.number-then-signed.ensures in
    product-fits c.number.result c.number-then-signed.result first.fits second.fits first.low first.high second.low second.high

pub overflow_cast-result : goal.overflow_cast-result
overflow_cast-result c = let small : c.cast_unsigned.result < 2 ^ 64 = c.cast_unsigned.type_inv in omega (arith, small)

pub returns-then-signed : goal.returns-then-signed
returns-then-signed c =
    let first = c.number.ensures in
    let second = c.number-then-signed.ensures in
    let fits = product-fits c.number.result c.number-then-signed.result first.fits second.fits first.low first.high second.low second.high in
    let product = product-is c.number.result c.number-then-signed.result (signed c.args.a) (signed c.args.b) first.fits second.fits fits first.value second.value in
    ap (λ n. n / 2 ^ 32) (c.cast_unsigned.ensures ∙ ap (cast_unsigned w64) product) ∙ sym (ap (λ s. high_product s c.args.a c.args.b) c.if-signed.true)
