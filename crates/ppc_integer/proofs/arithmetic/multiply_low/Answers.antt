use Rattle.std.proofs.Common.{◌≡◌, ◌/◌, ◌==◌, false, ap, ◌∙◌}
use Rattle.ppc_isa.specs.Fields.{fields_of}
use Rattle.ppc_integer.specs.Arithmetic.{with_arith}
use Rattle.ppc_integer.specs.File.{gpr_of}
use Rattle.ppc_alu.specs.Outcomes.{multiplied}
use Rattle.ppc_integer.proofs.Alike.{ends_with, outcome_is}
use Rattle.ppc_integer.proofs.arithmetic.multiply_low.Goals as goal

pub returns : goal.returns
returns c =
    let r = c.args.regs.now in
    let f = fields_of c.args.word in
    let oe = (f.xo / 512) == 1 in
    let product = multiplied (gpr_of r f.a) (gpr_of r f.b) in
    let is : c.mul_low-outcome.result ≡ product =
    c.mul_low-outcome.ensures
    ∙ ap (λ n. multiplied (gpr_of r n) (gpr_of r c.b_of.result)) c.a_of.ensures.is
    ∙ ap (λ n. multiplied (gpr_of r f.a) (gpr_of r n)) c.b_of.ensures.is in
    let outcome = outcome_is r f.d false oe f.last c.mul_low-outcome.result product is in
    λ cell m. ends_with (with_arith r f.d false oe f.last c.mul_low-outcome.result) (with_arith r f.d false oe f.last product) c.finish_overflow.new.regs c.finish_overflow.result outcome c.finish_overflow.ensures cell r m
