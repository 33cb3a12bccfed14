use Rattle.std.proofs.Common.{arith}
use Rattle.m68_isa.specs.First.{first_of}
use Rattle.m68_ea.specs.Words.{words_at}
use Rattle.m68_core.proofs.Operands.{bit_of_byte}
use Rattle.m68_core.proofs.bits.on_bit.Goals as goal

pub returns-else-mode_of-eq0 : goal.returns-else-mode_of-eq0
returns-else-mode_of-eq0 c =
    let f = first_of c.args.word in
    rw (bit_of_byte (words_at c.args.ram.now c.args.regs.now.pc) c.args.first f.mode f.lower (omega arith)) c.on_byte.ensures
