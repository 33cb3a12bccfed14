use Rattle.std.proofs.Common.{true, refl}
use Rattle.mix_bits.specs.declared.fault.FaultKind.TheVariants.{Illegal}
use Rattle.m68_isa.specs.Operands.{operand_at}
use Rattle.mix_bits.specs.Faults.{fault_at}
use Rattle.m68_ea.specs.Operands.{sourced}
use Rattle.m68_ea.specs.Words.{words_at}
use Rattle.m68_movement.proofs.Pairs.{first_refused}
use Rattle.m68_movement.proofs.moves.move_to_register.Goals as goal

pub returns-in_default : goal.returns-in_default
returns-in_default c =
    let r = c.args.regs.now in
    let m = c.args.ram.now in
    let size = c.args.size in
    let from = operand_at (words_at m r.pc) 1 size c.args.from.0 c.args.from.1 in
    (first_refused from.good true (sourced r m size from.ea) _ (fault_at r.pc Illegal c.args.word) _ refl c.in_default.ensures.is.0, c.in_default.ensures.is.1, refl)
