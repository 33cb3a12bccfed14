use Rattle.std.proofs.Common.{arith}
use Rattle.ppc_isa.proofs.Found.{mask_fits}
use Rattle.ppc_isa.proofs.made.instruction_of.Goals as goal

pub overflow_cast-result : goal.overflow_cast-result
overflow_cast-result c = omega (arith, mask_fits c.args.word c.args.op c.ranges.word.fits c.requires.meaning c.in-Mtcrf.is)
