-- One line after the other.
use Rattle.std.proofs.Common.{◌≡◌, ◌<◌, [], length, rules, ap, ◌∙◌, subst}
use Rattle.mix_bits.specs.Addresses.{onward}
use Rattle.mix_io.specs.Streams.{Breaks, Grows}
use Rattle.mix_io.specs.StreamsClauses.{output}
use Rattle.mix_text.specs.inner.Parts.{Adds}
use Rattle.mix_text.proofs.Walks.{Takes, err-from, err-of, ok-of, putting-ends, putting-begins, putting-breaks, putting-known, putting-on}
use Rattle.mix_text.proofs.text.put_text.Goals as goal

pub lines-init : goal.lines-init
lines-init g c = putting-begins _ c.args.set c.args.at c.args.text.now _ c.ranges.at.fits c.requires c.new-piece.ensures

pub known_line-bytes-requires : goal.known_line-bytes-requires
known_line-bytes-requires g c =
    let some : 0 < length c.lines.rest.now = search rules in
    putting-known _ (output (g.O.Sink.held c.lines.out) (g.O.Sink.faults c.lines.out)) c.args.set c.args.at c.args.text.now c.lines.next c.lines.rest.now c.split_line.result.0.now c.split_line.result.1.now
    c.lines.piece.items c.lines.invariant (record { some = some; first = c.split_line.ensures.line; others = c.split_line.ensures.rest })

pub lines-preserved : goal.lines-preserved
lines-preserved g c =
    let some : 0 < length c.lines.rest.now = search rules in
    let takes : Takes c.lines.rest.now c.split_line.result.0.now c.split_line.result.1.now
    = record { some = some; first = c.split_line.ensures.line; others = c.split_line.ensures.rest } in
    putting-on _ (output (g.O.Sink.held c.lines.out) (g.O.Sink.faults c.lines.out)) _ c.args.set c.args.at c.args.text.now c.lines.next c.onward-next.result c.lines.rest.now
    c.split_line.result.0.now c.split_line.result.1.now c.lines.piece.items c.add_bytes.new.piece.items c.known_line-bytes.result.items c.lines.invariant takes c.known_line-bytes.ensures
    (c.onward-next.ensures ∙ ap (onward c.lines.next) c.len.ensures.value)
    (subst (Adds (output (g.O.Sink.held c.lines.out) (g.O.Sink.faults c.lines.out)) (output (g.O.Sink.held c.add_bytes.new.out) (g.O.Sink.faults c.add_bytes.new.out)) c.lines.piece.items
    c.add_bytes.new.piece.items)
    c.deref.ensures.0 c.in_ok-add_bytes.ensures.whole)

pub returns-in_err-add_bytes-clause-part : goal.returns-in_err-add_bytes-clause-part
returns-in_err-add_bytes-clause-part g c =
    err-from c.from_residual.result
    (putting-breaks _ _ _ c.args.set c.args.at c.args.text.now c.lines.next c.lines.rest.now c.lines.piece.items c.lines.invariant c.in_err-add_bytes.ensures.part)

pub returns-clause-part : goal.returns-clause-part
returns-clause-part g c =
    let piece = c.lines.piece.items in
    err-of c.flush.result _
    (λ breaks. putting-breaks _ (output (g.O.Sink.held c.lines.out) (g.O.Sink.faults c.lines.out)) _ c.args.set c.args.at c.args.text.now c.lines.next c.lines.rest.now piece c.lines.invariant
    (subst (Breaks (output (g.O.Sink.held c.lines.out) (g.O.Sink.faults c.lines.out)) (output (g.O.Sink.held c.flush.new.out) (g.O.Sink.faults c.flush.new.out)) []) c.deref-2.ensures.0 breaks))
    c.flush.ensures.part

pub returns-clause-whole : goal.returns-clause-whole
returns-clause-whole g c =
    let none : length c.lines.rest.now ≡ 0 = search rules in
    ok-of c.flush.result _
    (λ grows. putting-ends _ (output (g.O.Sink.held c.lines.out) (g.O.Sink.faults c.lines.out)) _ c.args.set c.args.at c.args.text.now c.lines.next c.lines.rest.now c.lines.piece.items c.lines.invariant none
    (subst (Grows (output (g.O.Sink.held c.lines.out) (g.O.Sink.faults c.lines.out)) (output (g.O.Sink.held c.flush.new.out) (g.O.Sink.faults c.flush.new.out))) c.deref-2.ensures.0 grows))
    c.flush.ensures.whole
