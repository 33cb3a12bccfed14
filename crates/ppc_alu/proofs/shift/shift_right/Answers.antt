-- All bits are shifted out.
use Rattle.std.proofs.Common.{arith, sym}
use Rattle.ppc_alu.proofs.ShiftLemmas.{shifted-out_negative, shifted-out_positive}
use Rattle.ppc_alu.proofs.shift.shift_right.Goals as goal

pub returns-then-is_negative-2 : goal.returns-then-is_negative-2
returns-then-is_negative-2 c = shifted-out_negative c.args.v c.args.n (omega arith) (omega arith) c.if-is_negative-2.ensures

pub returns-else-is_negative-2 : goal.returns-else-is_negative-2
returns-else-is_negative-2 c = shifted-out_positive c.args.v c.args.n (omega arith) (omega arith) c.if-is_negative-2.ensures
