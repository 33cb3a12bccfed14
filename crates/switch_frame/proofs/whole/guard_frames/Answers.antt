use Rattle.std.proofs.Common.{◌<◌, ap, arith}
use Rattle.big_memory.specs.Memory.{Memory}
use Rattle.switch_frame.specs.laws.Chain.{IsFrameRange}
use Rattle.switch_frame.specs.Chain.{records}
use Rattle.switch_frame.proofs.Guarding.{fewer-left, guards-all, guards-more, guards-none, told-range}
use Rattle.switch_frame.proofs.whole.guard_frames.Goals as goal

pub guard-requires-clause-last : goal.guard-requires-clause-last
guard-requires-clause-last c =
    let live : 0 < c.frames.lo = omega arith in
    let range : IsFrameRange c.frames.ram c.frames.lo c.read_long-hi.result
    = told-range c.frames.ram c.frames.lo c.read_long-hi.result (records c.frames.ram.bytes c.frames.lo) c.frames.invariant.links live c.read_long-hi.ensures in
    range.last

pub guard-requires-clause-order : goal.guard-requires-clause-order
guard-requires-clause-order c =
    let live : 0 < c.frames.lo = omega arith in
    let range : IsFrameRange c.frames.ram c.frames.lo c.read_long-hi.result
    = told-range c.frames.ram c.frames.lo c.read_long-hi.result (records c.frames.ram.bytes c.frames.lo) c.frames.invariant.links live c.read_long-hi.ensures in
    range.order

pub guard-requires-clause-within : goal.guard-requires-clause-within
guard-requires-clause-within c =
    let live : 0 < c.frames.lo = omega arith in
    let range : IsFrameRange c.frames.ram c.frames.lo c.read_long-hi.result
    = told-range c.frames.ram c.frames.lo c.read_long-hi.result (records c.frames.ram.bytes c.frames.lo) c.frames.invariant.links live c.read_long-hi.ensures in
    range.within

pub frames-smaller : goal.frames-smaller
frames-smaller c =
    let live : 0 < c.frames.lo = omega arith in
    let same = ap (λ (m : Memory). m.bytes) c.guard.ensures in
    fewer-left c.args.ram.now c.frames.ram c.guard.new.self c.args.top c.frames.lo c.read_long-lo.result c.frames.invariant live same c.read_long-lo.ensures

pub frames-preserved : goal.frames-preserved
frames-preserved c =
    let live : 0 < c.frames.lo = omega arith in
    guards-more c.args.ram.now c.frames.ram c.guard.new.self c.args.top c.frames.lo c.read_long-hi.result c.read_long-lo.result c.frames.invariant live c.read_long-hi.ensures c.guard.ensures c.read_long-lo.ensures

pub frames-init : goal.frames-init
frames-init c = guards-none c.args.ram.now c.args.top c.requires.links c.requires.clear

pub returns-clause-chain : goal.returns-clause-chain
returns-clause-chain c = guards-all c.args.ram.now c.frames.ram c.args.top c.frames.lo c.requires.links c.frames.invariant (omega arith)
