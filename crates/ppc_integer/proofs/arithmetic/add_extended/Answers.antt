use Rattle.std.proofs.Common.{◌≡◌, ◌/◌, ◌==◌, true, ap, ◌∙◌}
use Rattle.ppc_isa.specs.Fields.{fields_of}
use Rattle.ppc_integer.specs.Arithmetic.{operand_of, with_arith}
use Rattle.ppc_integer.specs.File.{gpr_of}
use Rattle.ppc_alu.specs.Outcomes.{added}
use Rattle.ppc_integer.specs.Xer.{ca_of}
use Rattle.ppc_integer.proofs.Alike.{added_is, ends_with, outcome_is}
use Rattle.ppc_integer.proofs.arithmetic.add_extended.Goals as goal

pub returns : goal.returns
returns c =
    let r = c.args.regs.now in
    let f = fields_of c.args.word in
    let sum = added (gpr_of r f.a) (operand_of c.args.operand) (ca_of r.xer) in
    let is : c.add3-outcome.result ≡ sum =
    c.add3-outcome.ensures ∙ added_is _ _ _ _ _ _ (ap (λ n. gpr_of r n) c.a_of.ensures.is) c.number_of.ensures c.xer_ca.ensures in
    let outcome = outcome_is r f.d true ((f.xo / 512) == 1) f.last c.add3-outcome.result sum is in
    λ cell m. ends_with (with_arith r f.d true ((f.xo / 512) == 1) f.last c.add3-outcome.result) (with_arith r f.d true ((f.xo / 512) == 1) f.last sum) c.finish_overflow.new.regs c.finish_overflow.result outcome c.finish_overflow.ensures cell r m
