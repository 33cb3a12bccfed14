use Rattle.std.proofs.Common.{arith}
use Rattle.m68_alu.proofs.Overflows.{far_leaves}
use Rattle.m68_alu.proofs.shifts.has_left.Goals as goal

pub returns-then-count-gt32 : goal.returns-then-count-gt32
returns-then-count-gt32 c = far_leaves c.args.v c.args.count c.args.most c.if-count-gt32.true (omega arith)
