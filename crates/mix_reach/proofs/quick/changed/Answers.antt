use Rattle.m68_isa.specs.First.{first_of, size_of}
use Rattle.m68_ea.specs.Words.{words_at}
use Rattle.mix_reach.proofs.Quick68.{into_same}
use Rattle.mix_reach.proofs.quick.changed.Goals as goal

pub returns : goal.returns
returns c =
    into_same c.args.regs.now (words_at c.args.ram.now c.args.regs.now.pc) 1 c.size_of-size.result (size_of (first_of c.args.word).size) c.mode_of.result (first_of c.args.word).mode c.lower_of.result (first_of c.args.word).lower
    c.at_operand.result c.size_of-size.ensures.is c.mode_of.ensures.is c.lower_of.ensures.is c.at_operand.ensures
