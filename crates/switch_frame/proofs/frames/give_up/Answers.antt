use Rattle.std.proofs.Common.{arith}
use Rattle.switch_frame.specs.laws.Chain.{IsFrameRange}
use Rattle.switch_frame.specs.Chain.{records}
use Rattle.switch_frame.proofs.Turns.{IsGivenUp, given-up, innermost-range}
use Rattle.switch_frame.proofs.frames.give_up.Goals as goal

pub read_long-outer-requires : goal.read_long-outer-requires
read_long-outer-requires c =
    let range : IsFrameRange c.args.ram.now c.args.held.now.lo c.args.held.now.hi
    = innermost-range c.args.ram.now c.args.top.now c.args.held.now.lo c.args.held.now.hi (records c.args.ram.now.bytes c.args.top.now) c.requires.chain.links c.requires.innermost in
    omega (arith, range.first, range.last, range.order, range.within)

pub clear-requires : goal.clear-requires
clear-requires c =
    innermost-range c.args.ram.now c.args.top.now c.args.held.now.lo c.args.held.now.hi (records c.args.ram.now.bytes c.args.top.now) c.requires.chain.links c.requires.innermost

gives : (c : goal.After-clear) → IsGivenUp c.args.ram.now c.clear.new.ram c.read_long-outer.result (records c.args.ram.now.bytes c.args.top.now)
gives c =
    given-up c.args.ram.now c.clear.new.ram c.args.top.now c.read_long-outer.result c.args.held.now.lo c.args.held.now.hi (records c.args.ram.now.bytes c.args.top.now)
    c.requires.chain c.requires.innermost c.read_long-outer.ensures c.clear.ensures

pub returns-clause-records : goal.returns-clause-records
returns-clause-records c = (gives c).records_are

pub returns-clause-chain : goal.returns-clause-chain
returns-clause-chain c = (gives c).chain

pub returns-clause-memory : goal.returns-clause-memory
returns-clause-memory c = (gives c).memory

pub returns-clause-len : goal.returns-clause-len
returns-clause-len c = (gives c).len
