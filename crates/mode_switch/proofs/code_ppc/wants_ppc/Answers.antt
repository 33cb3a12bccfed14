-- What is meant follows from what is wanted.
use Rattle.std.proofs.Common.{subst, sym}
use Rattle.mix_bits.specs.declared.isa.Isa.TheVariants.{Ppc}
use Rattle.mode_switch.specs.laws.Wanted.{Means}
use Rattle.mode_switch.proofs.Meant.{meant-ppc}
use Rattle.mode_switch.proofs.code_ppc.wants_ppc.Goals as goal

pub returns-clause-meant : goal.returns-clause-meant
returns-clause-meant c =
    subst (Means Ppc) (sym c.wants_word.ensures) (meant-ppc c.args.ram.now c.args.regs.now c.args.pointer c.args.info)
