-- One line after the other.
use Rattle.std.proofs.Common.{◌≡◌, ◌<◌, length, rules, ap, ◌∙◌}
use Rattle.mix_bits.specs.Addresses.{onward}
use Rattle.mix_text.proofs.Walks.{Takes, walked-bad, walked-ends, walked-on}
use Rattle.mix_text.proofs.text.check_text.Goals as goal

pub returns-in-Err-clause-refused : goal.returns-in-Err-clause-refused
returns-in-Err-clause-refused c =
    let some : 0 < length c.lines.rest.now = search rules in
    let takes : Takes c.lines.rest.now c.split_line.result.0.now c.split_line.result.1.now
    = record { some = some; first = c.split_line.ensures.line; others = c.split_line.ensures.rest } in
    walked-bad c.args.set c.args.at c.args.text.now c.lines.number c.lines.next c.lines.rest.now c.split_line.result.0.now c.split_line.result.1.now c.in-Err.reason c.lines.invariant takes
    c.in-Err.ensures.refused

pub lines-preserved : goal.lines-preserved
lines-preserved c =
    let some : 0 < length c.lines.rest.now = search rules in
    let takes : Takes c.lines.rest.now c.split_line.result.0.now c.split_line.result.1.now
    = record { some = some; first = c.split_line.ensures.line; others = c.split_line.ensures.rest } in
    walked-on c.args.set c.args.at c.args.text.now c.lines.number c.lines.next c.onward-next.result c.lines.rest.now c.split_line.result.0.now c.split_line.result.1.now c.in-Ok.bytes.items
    c.lines.invariant takes c.in-Ok.ensures.bytes (c.onward-next.ensures ∙ ap (onward c.lines.next) c.len.ensures.value)

pub returns-clause-whole : goal.returns-clause-whole
returns-clause-whole c =
    let none : length c.lines.rest.now ≡ 0 = search rules in walked-ends c.args.set c.args.at c.args.text.now c.lines.number c.lines.next c.lines.rest.now c.lines.invariant none
