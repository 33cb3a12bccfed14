-- One line after the other.
use Rattle.std.proofs.Common.{◌<◌, rules}
use Rattle.look_why.proofs.Places.{reached-on}
use Rattle.look_why.proofs.place.place_behind.Goals as goal

pub lines-preserved : goal.lines-preserved
lines-preserved c =
    let some : 0 < c.lines.left = search rules in
    reached-on c.args.set c.args.lines c.args.text.now c.args.at c.lines.left c.lines.rest.now c.lines.next c.split_line.result.0.now c.split_line.result.1.now
    c.in-Some.count c.onward-next.result some c.split_line.ensures.line c.split_line.ensures.rest c.split_line.ensures.rest_within c.in-Some.ensures
    c.onward-next.ensures c.lines.invariant
