use Rattle.m68_isa.specs.First.{first_of}
use Rattle.mix_reach.proofs.Quick68.{moves_found}
use Rattle.mix_reach.proofs.quick.moved.Goals as goal

pub returns-in-Some : goal.returns-in-Some
returns-in-Some c =
    moves_found c.args.regs.now c.find.new.regs c.args.ram.now (first_of c.args.word) c.args.word c.args.size c.mode_of.result c.lower_of.result c.move_mode_of.result c.upper_of.result c.find.result c.in-Some.field-0 c.find.new.next c.find.new.fault
    c.at_operand.result c.mode_of.ensures.is c.lower_of.ensures.is c.move_mode_of.ensures.is c.upper_of.ensures.is c.in-Some.is c.find.ensures.is c.at_operand.ensures
