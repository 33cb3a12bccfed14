use Rattle.mix_engine.proofs.Instructions.{core-steps}
use Rattle.mix_bits.specs.declared.isa.Isa.TheVariants.{M68}
use Rattle.m68_effects.specs.Step.{stepped}
use Rattle.mix_engine.proofs.cores.core_68k.Goals as goal

pub returns-clause-does : goal.returns-clause-does
returns-clause-does c =
    core-steps c.body_laws.ensures stepped c.run.result c.run.new.fault c.args.regs.now c.run.new.regs c.args.body.now c.run.new.ram M68 c.requires.whole c.run.ensures.does
