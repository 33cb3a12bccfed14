use Rattle.std.proofs.Common.{subst}
use Rattle.mix_bits.specs.declared.isa.Isa.TheVariants.{Ppc}
use Rattle.big_memory.specs.StepsClauses.{Does}
use Rattle.ppc_integer.specs.Effects.{stepped}
use Rattle.mix_engine.proofs.Codes.{host-number}
use Rattle.mix_engine.proofs.Instructions.{core-steps}
use Rattle.mix_engine.proofs.cores.core_ppc.Goals as goal

pub returns-clause-does : goal.returns-clause-does
returns-clause-does c =
    core-steps c.body_laws.ensures stepped c.run.result c.run.new.fault c.args.regs.now c.run.new.regs c.args.body.now c.run.new.ram Ppc c.requires.whole c.run.ensures.does

pub returns-clause-number : goal.returns-clause-number
returns-clause-number c left =
    let r = c.args.regs.now in
    let ram = c.args.body.now.ram in
    let number = c.run.new.fault.detail in
    let leaves = subst (λ did. Does (stepped r ram) did c.run.new.fault r c.run.new.regs ram c.run.new.ram) left c.run.ensures.does in
    host-number r.pc number (c.effect_laws.ensures r ram number leaves.0)
