use Rattle.std.proofs.Common.{◌*◌, ◌%◌, ◌^◌, Bool, false, ap, ◌∙◌}
use Rattle.ppc_alu.specs.Words.{leaves_word, signed}
use Rattle.ppc_alu.specs.declared.arith.Arith.{Arith}
use Rattle.ppc_alu.proofs.SignedLemmas.{product-fits, product-is}
use Rattle.ppc_alu.proofs.arith.mul_low.Goals as goal

pub overflow_mul-number : goal.overflow_mul-number
overflow_mul-number c =
    let first = c.number.ensures in
    let second = c.number-2.ensures in
    product-fits c.number.result c.number-2.result first.fits second.fits first.low first.high second.low second.high

pub returns : goal.returns
returns c =
    let first = c.number.ensures in
    let second = c.number-2.ensures in
    let fits = product-fits c.number.result c.number-2.result first.fits second.fits first.low first.high second.low second.high in
    let product = product-is c.number.result c.number-2.result (signed c.args.a) (signed c.args.b) first.fits second.fits fits first.value second.value in
    let outcome : Bool → Arith = λ over. record { value = (c.args.a * c.args.b) % 2 ^ 32; ca = false; ov = over } in
    ap outcome (c.is_out.ensures ∙ ap leaves_word product)
