use Rattle.std.proofs.Common.{ℕ, ◌/◌, ◌==◌, false, ap}
use Rattle.ppc_isa.specs.Fields.{fields_of}
use Rattle.ppc_integer.specs.Arithmetic.{carry_into, sets_ca, with_arith}
use Rattle.ppc_integer.specs.File.{gpr_of}
use Rattle.ppc_alu.specs.Outcomes.{added}
use Rattle.ppc_integer.proofs.Alike.{ends_with}
use Rattle.ppc_integer.proofs.arithmetic.add.Goals as goal

pub returns : goal.returns
returns c =
    let r = c.args.regs.now in
    let f = fields_of c.args.word in
    let changed = λ (n : ℕ). with_arith r f.d (sets_ca c.args.carry) ((f.xo / 512) == 1) f.last (added (gpr_of r n) (gpr_of r f.b) (carry_into r c.args.carry false)) in
    λ cell m. ends_with (changed c.a_of.result) (changed f.a) c.sum.new.regs c.sum.result (ap changed c.a_of.ensures.is) c.sum.ensures cell r m
