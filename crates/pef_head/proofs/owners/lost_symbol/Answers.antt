use Rattle.std.proofs.Common.{sym, arith}
use Rattle.pef_head.proofs.Lost.{first_lost_after, none_lost}
use Rattle.pef_head.proofs.owners.lost_symbol.Goals as goal

pub returns-in-Some-clause-is : goal.returns-in-Some-clause-is
returns-in-Some-clause-is c =
    sym (first_lost_after c.args.bytes.now c.args.l c.loop-from.from c.min-to.result c.in-Some.i c.loop-from.invariant c.in-Some.ensures (omega (arith, c.min-to.ensures)))

pub returns-clause-is : goal.returns-clause-is
returns-clause-is c = sym (none_lost c.args.bytes.now c.args.l (λ i low lt. c.loop-from.invariant i low (omega arith)))
