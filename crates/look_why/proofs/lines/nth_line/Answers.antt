-- One line after the other.
use Rattle.std.proofs.Common.{◌<◌, ◌≤◌, rules}
use Rattle.look_why.specs.Lines.{nth_line}
use Rattle.look_why.proofs.Walks.{walked-ends, walked-on}
use Rattle.look_why.proofs.lines.nth_line.Goals as goal

pub lines-preserved : goal.lines-preserved
lines-preserved c =
    let more : 1 < c.lines.left = search rules in (
      walked-on c.lines.rest.now c.split_line.result.1.now (nth_line c.args.number c.args.text.now) c.lines.left more c.split_line.ensures.rest c.lines.invariant.0,
      search rules,
    )

pub returns-clause-is : goal.returns-clause-is
returns-clause-is c =
    let few : c.lines.left ≤ 1 = search rules in
    walked-ends c.lines.rest.now c.split_line-2.result.0.now (nth_line c.args.number c.args.text.now) c.lines.left few c.split_line-2.ensures.line c.lines.invariant.0
