use Rattle.std.proofs.Common.{◌≡◌, ◌/◌, ◌==◌, refl, ap, ◌∙◌}
use Rattle.ppc_isa.specs.Fields.{fields_of}
use Rattle.ppc_integer.specs.Arithmetic.{carry_into, sets_ca, with_arith}
use Rattle.ppc_integer.specs.File.{gpr_of}
use Rattle.ppc_alu.specs.Outcomes.{added}
use Rattle.ppc_integer.proofs.Alike.{added_is, ends_with, outcome_is}
use Rattle.ppc_integer.proofs.arithmetic.sum_apart.Goals as goal

pub returns : goal.returns
returns c =
    let r = c.args.regs.now in
    let f = fields_of c.args.word in
    let oe = (f.xo / 512) == 1 in
    let sum = added c.args.a (gpr_of r f.b) (carry_into r c.args.carry c.args.other) in
    let is : c.add3-outcome.result ≡ sum =
    c.add3-outcome.ensures ∙ added_is _ _ _ _ _ _ refl (ap (gpr_of r) c.b_of.ensures.is) c.carry_into.ensures in
    let changed : with_arith r f.d c.sets_ca.result oe f.last c.add3-outcome.result ≡ with_arith r f.d (sets_ca c.args.carry) oe f.last sum =
    ap (λ ca. with_arith r f.d ca oe f.last c.add3-outcome.result) c.sets_ca.ensures
    ∙ outcome_is r f.d (sets_ca c.args.carry) oe f.last c.add3-outcome.result sum is in
    ends_with (with_arith r f.d c.sets_ca.result oe f.last c.add3-outcome.result) (with_arith r f.d (sets_ca c.args.carry) oe f.last sum) c.finish_overflow.new.regs c.finish_overflow.result changed c.finish_overflow.ensures
