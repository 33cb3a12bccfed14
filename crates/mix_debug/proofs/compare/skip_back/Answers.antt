use Rattle.std.proofs.Common.{arith, ◌≤◌, ◌+◌}
use Rattle.mix_debug.proofs.Narrowing.{covers-back}
use Rattle.mix_debug.proofs.compare.skip_back.Goals as goal

pub back-preserved : goal.back-preserved
back-preserved c =
    let inside : c.args.range.low + c.args.size ≤ c.back.high = omega (arith, c.back-test.true) in
    covers-back c.args.range.low c.back.high c.args.size c.args.old.now c.args.new.now inside c.if-is_same.ensures c.back.invariant
