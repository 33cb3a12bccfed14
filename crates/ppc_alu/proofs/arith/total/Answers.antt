use Rattle.std.proofs.Common.{FitsSigned, sym, subst}
use Rattle.std.specs.Int.{w64}
use Rattle.ppc_alu.proofs.SignedLemmas.{sum-fits, sum-is}
use Rattle.ppc_alu.proofs.arith.total.Goals as goal

pub returns : goal.returns
returns c =
    let fits = sum-fits c.args.a c.args.b c.args.carry c.requires.a_low c.requires.a_high c.requires.b_low c.requires.b_high in
    let value = sum-is c.args.a c.args.b c.from.result c.args.carry c.ranges.a c.ranges.b fits.0 fits.1 c.from.ensures in
    record { value = value; fits = subst (FitsSigned w64) (sym value) fits.1 }
