use Rattle.std.proofs.Common.{arith, ◌≤◌, ◌+◌}
use Rattle.mix_debug.proofs.Narrowing.{covers-front}
use Rattle.mix_debug.proofs.compare.skip_front.Goals as goal

pub front-preserved : goal.front-preserved
front-preserved c =
    let inside : c.front.low + c.args.size ≤ c.args.range.high = omega (arith, c.front-test.true) in
    covers-front c.front.low c.args.range.high c.args.size c.args.old.now c.args.new.now inside c.if-is_same.ensures c.front.invariant
