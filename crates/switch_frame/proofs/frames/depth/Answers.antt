use Rattle.std.proofs.Common.{◌<◌, ◌∙◌, arith}
use Rattle.switch_frame.specs.Chain.{records}
use Rattle.switch_frame.proofs.Turns.{IsLive, live-is}
use Rattle.switch_frame.proofs.frames.depth.Goals as goal

live : (c : goal.After-read_long) → IsLive c.args.ram.now c.args.top (records c.args.ram.now.bytes c.args.top)
live c = let some : 0 < c.args.top = omega arith in live-is c.args.ram.now c.args.top (records c.args.ram.now.bytes c.args.top) c.requires some

pub returns-else-top-eq0 : goal.returns-else-top-eq0
returns-else-top-eq0 c = c.read_long.ensures ∙ (live c).depth
