use Rattle.std.proofs.Common.{false, [], ◌∷◌, take, ap, refl, ◌∙◌}
use Rattle.circular_buffer.specs.Buffer.{buffer}
use Rattle.mix_debug.specs.declared.head.Head.{Head}
use Rattle.mix_debug.specs.declared.past.Past.{Past}
use Rattle.mix_debug.specs.inner.Entries.{head_with, still}
use Rattle.mix_debug.specs.inner.Pasts.{ready_in}
use Rattle.mix_debug.proofs.Empty.{no_olds, olds_stay, spans_stay}
use Rattle.mix_debug.proofs.Holding.{few-olds, few-spans, pushed}
use Rattle.mix_debug.proofs.past.Past.keep_still.Goals as goal

pub returns-clause-past : goal.returns-clause-past
returns-clause-past c = λ top is.
    let p : Past = c.args.self.now in
    let q : Past = record { ready = p.ready; heads = c.push_head.new.heads; spans = p.spans; olds = p.olds; trimmed = false } in
    let kept = pushed p q (head_with (ready_in p) (still top)) [] c.requires refl (no_olds [] refl)
    (c.push_head.ensures ∙ ap (λ (h : Head). buffer (take p.heads.capacity (h ∷ p.heads.items)) p.heads.capacity) is)
    (spans_stay [] p.spans.capacity p.spans.items refl (few-spans p c.requires)) refl (olds_stay [] p.olds.capacity p.olds.items refl (few-olds p c.requires)) refl refl in
    kept.past

pub returns-clause-entries : goal.returns-clause-entries
returns-clause-entries c = λ top is.
    let p : Past = c.args.self.now in
    let q : Past = record { ready = p.ready; heads = c.push_head.new.heads; spans = p.spans; olds = p.olds; trimmed = false } in
    let kept = pushed p q (head_with (ready_in p) (still top)) [] c.requires refl (no_olds [] refl)
    (c.push_head.ensures ∙ ap (λ (h : Head). buffer (take p.heads.capacity (h ∷ p.heads.items)) p.heads.capacity) is)
    (spans_stay [] p.spans.capacity p.spans.items refl (few-spans p c.requires)) refl (olds_stay [] p.olds.capacity p.olds.items refl (few-olds p c.requires)) refl refl in
    kept.entries_are
