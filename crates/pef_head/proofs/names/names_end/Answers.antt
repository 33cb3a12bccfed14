use Rattle.std.proofs.Common.{◌≡◌, ◌-◌, suc, arith}
use Rattle.pef_head.proofs.Zeros.{no_zero_before, none_from, some_before}
use Rattle.pef_head.proofs.names.names_end.Goals as goal

pub loop-end-preserved : goal.loop-end-preserved
loop-end-preserved c =
    let next : suc (c.loop-end.end - 1) ≡ c.loop-end.end = omega (arith, c.loop-end-test.true) in
    record {
      within = omega arith;
      none = no_zero_before _ (c.loop-end.end - 1) _ (omega arith) c.requires c.if-bytes-end-ne0.true (rw next c.loop-end.invariant.none);
    }

pub returns-else-bytes-end-ne0 : goal.returns-else-bytes-end-ne0
returns-else-bytes-end-ne0 c =
    some_before _ _ _ c.requires c.loop-end.invariant.within c.loop-end.invariant.none c.loop-end-test.true c.if-bytes-end-ne0.false

pub returns-after-loop-end : goal.returns-after-loop-end
returns-after-loop-end c = none_from c.args.bytes.now _ _ c.requires c.loop-end.invariant.none c.loop-end-test.false
