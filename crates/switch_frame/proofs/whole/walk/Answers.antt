use Rattle.std.proofs.Common.{◌≡◌, ◌==◌, false, sym, ◌∙◌, arith}
use Rattle.std.proofs.lemmas.Bool.Decides.{nat_tests}
use Rattle.switch_frame.proofs.Walks.{good-at, goes-on, stops-bad, stops-end, stops-last}
use Rattle.switch_frame.proofs.whole.walk.Goals as goal

pub returns-then-not-is_good : goal.returns-then-not-is_good
returns-then-not-is_good c =
    stops-bad c.args.ram.now c.args.main c.frames.callee 256 c.frames.count c.frames.lo _ (omega arith) c.frames.invariant (sym c.is_good.ensures ∙ c.if-not-is_good.true)

pub read_long-outer-requires : goal.read_long-outer-requires
read_long-outer-requires c =
    let there = good-at c.args.ram.now c.args.main c.frames.callee c.frames.lo (sym c.is_good.ensures ∙ c.if-not-is_good.false) in omega (arith, there)

pub returns-then-outer-eq0 : goal.returns-then-outer-eq0
returns-then-outer-eq0 c =
    stops-last c.args.ram.now c.args.main c.frames.callee 256 c.frames.count c.frames.lo c.read_long-outer.result _ (omega arith) c.frames.invariant (sym c.is_good.ensures ∙ c.if-not-is_good.false) c.read_long-outer.ensures c.if-outer-eq0.true

pub caller-callee-requires-clause-there : goal.caller-callee-requires-clause-there
caller-callee-requires-clause-there c =
    good-at c.args.ram.now c.args.main c.frames.callee c.frames.lo (sym c.is_good.ensures ∙ c.if-not-is_good.false)

pub frames-preserved : goal.frames-preserved
frames-preserved c =
    let on : (c.read_long-outer.result == 0) ≡ false = grind (arith, nat_tests) in
    goes-on c.args.ram.now c.args.main c.frames.callee c.caller-callee.result 256 c.frames.count c.frames.lo c.read_long-outer.result _ (omega arith) c.frames.invariant (sym c.is_good.ensures ∙ c.if-not-is_good.false) c.read_long-outer.ensures on
    c.caller-callee.ensures

pub returns : goal.returns
returns c = stops-end c.args.ram.now c.args.main c.frames.callee 256 c.frames.count c.frames.lo _ (omega arith) c.frames.invariant
