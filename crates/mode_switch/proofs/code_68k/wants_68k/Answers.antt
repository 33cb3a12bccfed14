-- What is meant follows from what is wanted.
use Rattle.std.proofs.Common.{subst, sym}
use Rattle.mix_bits.specs.declared.isa.Isa.TheVariants.{M68}
use Rattle.mode_switch.specs.laws.Wanted.{Means}
use Rattle.mode_switch.proofs.Meant.{meant-68k}
use Rattle.mode_switch.proofs.code_68k.wants_68k.Goals as goal

pub returns-clause-meant : goal.returns-clause-meant
returns-clause-meant c =
    subst (Means M68) (sym c.wants_desc.ensures) (meant-68k c.args.ram.now c.args.regs.now)
