use Rattle.std.proofs.Common.{arith}
use Rattle.switch_frame.specs.Chain.{records}
use Rattle.switch_frame.proofs.Turns.{IsLive, IsOuter, live-is, outer-is}
use Rattle.switch_frame.proofs.frames.outer_lo.Goals as goal

pub read_long-requires : goal.read_long-requires
read_long-requires c =
    let live : IsLive c.args.ram.now c.args.lo (records c.args.ram.now.bytes c.args.lo) = live-is c.args.ram.now c.args.lo (records c.args.ram.now.bytes c.args.lo) c.requires.links c.requires.live in
    omega (arith, live.head)

outer : (c : goal.After-read_long) → IsOuter c.args.ram.now c.read_long.result (records c.args.ram.now.bytes c.args.lo)
outer c = outer-is c.args.ram.now c.args.lo c.read_long.result (records c.args.ram.now.bytes c.args.lo) c.requires.links c.requires.live c.read_long.ensures

pub returns-clause-value : goal.returns-clause-value
returns-clause-value c = (outer c).value

pub returns-clause-rest : goal.returns-clause-rest
returns-clause-rest c = (outer c).rest

pub returns-clause-links : goal.returns-clause-links
returns-clause-links c = (outer c).links
