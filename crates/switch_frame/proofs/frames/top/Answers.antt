use Rattle.std.proofs.Common.{◌<◌, Some, arith, ap, sym, ◌∙◌}
use Rattle.switch_frame.specs.Chain.{records}
use Rattle.switch_frame.proofs.Turns.{IsLive, live-is}
use Rattle.switch_frame.proofs.frames.top.Goals as goal

pub read_held-requires-clause-within : goal.read_held-requires-clause-within
read_held-requires-clause-within c =
    let some : 0 < c.args.top = omega arith in
    let live : IsLive c.args.ram.now c.args.top (records c.args.ram.now.bytes c.args.top) = live-is c.args.ram.now c.args.top (records c.args.ram.now.bytes c.args.top) c.requires some in
    live.whole

pub read_held-requires-clause-kind : goal.read_held-requires-clause-kind
read_held-requires-clause-kind c =
    let some : 0 < c.args.top = omega arith in
    let live : IsLive c.args.ram.now c.args.top (records c.args.ram.now.bytes c.args.top) = live-is c.args.ram.now c.args.top (records c.args.ram.now.bytes c.args.top) c.requires some in
    live.kind

pub returns-else-top-eq0-clause-value : goal.returns-else-top-eq0-clause-value
returns-else-top-eq0-clause-value c =
    let some : 0 < c.args.top = omega arith in
    let live : IsLive c.args.ram.now c.args.top (records c.args.ram.now.bytes c.args.top) = live-is c.args.ram.now c.args.top (records c.args.ram.now.bytes c.args.top) c.requires some in
    ap Some c.read_held.ensures ∙ sym live.is
