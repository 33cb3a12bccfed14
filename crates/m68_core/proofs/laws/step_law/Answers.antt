use Rattle.m68_core.proofs.ByOp.{step_by_op}
use Rattle.m68_core.proofs.laws.step_law.Goals as goal

pub returns : goal.returns
returns c = step_by_op c.op_laws.ensures c.args.regs.now c.args.ram.now c.args.word c.args.op c.requires.even c.requires.first c.requires.there c.requires.operation
