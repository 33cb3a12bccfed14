use Rattle.std.proofs.Common.{◌∷◌, false, take, ap, refl, ◌∙◌}
use Rattle.circular_buffer.specs.Buffer.{buffer}
use Rattle.mix_debug.specs.declared.head.Head.{Head}
use Rattle.mix_debug.specs.declared.past.Past.{Past}
use Rattle.mix_debug.specs.inner.WrittenBack.{runs_in}
use Rattle.mix_debug.specs.inner.Entries.{effect_of}
use Rattle.mix_debug.specs.Entries.{within}
use Rattle.mix_debug.specs.Pasts.{entries_in}
use Rattle.mix_debug.specs.inner.Pasts.{ready_in}
use Rattle.mix_debug.proofs.Holding.{few-olds, few-spans, pushed}
use Rattle.mix_debug.proofs.past.Past.keep.Goals as goal

pub push_changes-changes-requires-clause-spans_fit : goal.push_changes-changes-requires-clause-spans_fit
push_changes-changes-requires-clause-spans_fit c = few-spans c.args.self.now c.requires.past

pub push_changes-changes-requires-clause-olds_fit : goal.push_changes-changes-requires-clause-olds_fit
push_changes-changes-requires-clause-olds_fit c = few-olds c.args.self.now c.requires.past

pub returns-clause-past : goal.returns-clause-past
returns-clause-past c =
    let p : Past = c.args.self.now in
    let q : Past = record { ready = c.put_effect.new.head; heads = c.push_head.new.heads; spans = c.push_changes-changes.new.spans; olds = c.push_changes-changes.new.olds; trimmed = false } in
    let found = c.push_changes-changes.ensures in
    let h : Head = record { file = ready_in p; top = c.args.top; frame = c.args.frame; block = c.args.block; runs = c.push_changes-changes.result.runs; olds = c.push_changes-changes.result.bytes } in
    let kept = pushed p q h (runs_in c.args.low c.args.high c.args.old.now c.args.new.now) c.requires.past found.runs found.bytes
    (c.push_head.ensures ∙ ap (λ (x : Head). buffer (take p.heads.capacity (x ∷ p.heads.items)) p.heads.capacity) c.put_effect.ensures)
    found.spans found.span_room found.olds found.old_room refl in
    kept.past

pub returns-clause-entries : goal.returns-clause-entries
returns-clause-entries c =
    let p : Past = c.args.self.now in
    let q : Past = record { ready = c.put_effect.new.head; heads = c.push_head.new.heads; spans = c.push_changes-changes.new.spans; olds = c.push_changes-changes.new.olds; trimmed = false } in
    let found = c.push_changes-changes.ensures in
    let rs = runs_in c.args.low c.args.high c.args.old.now c.args.new.now in
    let h : Head = record { file = ready_in p; top = c.args.top; frame = c.args.frame; block = c.args.block; runs = c.push_changes-changes.result.runs; olds = c.push_changes-changes.result.bytes } in
    let kept = pushed p q h rs c.requires.past found.runs found.bytes
    (c.push_head.ensures ∙ ap (λ (x : Head). buffer (take p.heads.capacity (x ∷ p.heads.items)) p.heads.capacity) c.put_effect.ensures)
    found.spans found.span_room found.olds found.old_room refl in
    kept.entries_are
    ∙ ap (λ n. within 1048576 (record { head = record { file = ready_in p; top = c.args.top; frame = c.args.frame; block = c.args.block; runs = n; olds = c.push_changes-changes.result.bytes }; runs = rs } ∷ entries_in p)) found.runs
    ∙ ap (λ n. within 1048576 (record { head = record { file = ready_in p; top = c.args.top; frame = c.args.frame; block = c.args.block; runs = (effect_of c.args.top c.args.frame c.args.block rs).runs; olds = n }; runs = rs } ∷ entries_in p)) found.bytes
