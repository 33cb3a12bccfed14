-- One line after the other.
use Rattle.std.proofs.Common.{◌<◌, length, rules, sym}
use Rattle.mix_top.proofs.Splits.{Takes, none-of, some-of, tested-bad, tested-on}
use Rattle.mix_top.proofs.script.first_bad.Goals as goal

pub returns-then-is_none : goal.returns-then-is_none
returns-then-is_none c =
    let some : 0 < length c.lines.rest.now = search rules in
    let takes : Takes c.lines.rest.now c.split_line.result.0.now c.split_line.result.1.now
    = record { some = some; first = c.split_line.ensures.line; others = c.split_line.ensures.rest } in
    sym (tested-bad c.args.text.now c.lines.number c.lines.rest.now c.split_line.result.0.now c.split_line.result.1.now c.lines.invariant takes
    (none-of _ _ c.read_line.ensures (c.if-is_none.ensures)))

pub lines-preserved : goal.lines-preserved
lines-preserved c =
    let some : 0 < length c.lines.rest.now = search rules in
    let takes : Takes c.lines.rest.now c.split_line.result.0.now c.split_line.result.1.now
    = record { some = some; first = c.split_line.ensures.line; others = c.split_line.ensures.rest } in
    tested-on c.args.text.now c.lines.number c.lines.rest.now c.split_line.result.0.now c.split_line.result.1.now c.lines.invariant takes
    (some-of _ _ c.read_line.ensures (c.if-is_none.ensures))
