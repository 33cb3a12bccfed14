use Rattle.m68_isa.proofs.Bits.{bits_back}
use Rattle.m68_isa.proofs.registers.Ccr.bits.Goals as goal

pub returns-clause-back : goal.returns-clause-back
returns-clause-back c = bits_back c.args.self
