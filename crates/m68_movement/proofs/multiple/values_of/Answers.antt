use Rattle.std.proofs.Common.{◌≡◌, arith}
use Rattle.m68_movement.proofs.Masks.{all_listed}
use Rattle.m68_movement.proofs.multiple.values_of.Goals as goal

pub returns-clause-is : goal.returns-clause-is
returns-clause-is c =
    let end : c.loop-k.k ≡ 16 = omega arith in
    rw (all_listed c.args.mask) (rw end at c.loop-k.invariant.0)
