use Rattle.std.proofs.Common.{◌≤◌, length, inl, inr, arith}
use Rattle.proc_info.proofs.Params.{filled, filling-more, filling-none, refused}
use Rattle.proc_info.proofs.reader.fill.Goals as goal
use Rattle.proc_info.proofs.reader.fill.Goals.{then-count-most-via-then-count-most, then-count-most-via-else-count-most+then-left-eq0}

pub loop-left-init : goal.loop-left-init
loop-left-init c = filling-none c.args.shape c.args.most c.args.v c.args.list.now c.requires.empty

pub returns-then-count-most : goal.returns-then-count-most
returns-then-count-most c =
    elim c.then-count-most.branch [
      | then-count-most-via-then-count-most w ↦ refused _ _ _ _ _ c.loop-left.list c.loop-left-test.true (inl w.if-count-most.true) c.loop-left.invariant
      | then-count-most-via-else-count-most+then-left-eq0 w ↦ refused _ _ _ _ _ c.loop-left.list c.loop-left-test.true (inr w.if-left-eq0.true) c.loop-left.invariant
    ]

pub loop-left-preserved : goal.loop-left-preserved
loop-left-preserved c =
    let room : c.args.most ≤ length c.loop-left.list = omega arith in
    filling-more c.args.shape c.args.most c.args.v c.loop-left.count c.loop-left.left c.without_lowest-left.result c.loop-left.list c.lowest.result
    room c.if-count-most.false c.loop-left-test.true c.if-left-eq0.false c.lowest.ensures c.without_lowest-left.ensures c.loop-left.invariant

pub returns : goal.returns
returns c = filled c.args.shape c.args.most c.args.v c.loop-left.count c.loop-left.left c.loop-left.list c.loop-left-test.false c.loop-left.invariant
