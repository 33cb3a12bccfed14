use Rattle.std.proofs.Common.{true, ap, take, ◌∙◌}
use Rattle.circular_buffer.specs.Buffer.{buffer}
use Rattle.mix_debug.specs.declared.past.Past.{Past}
use Rattle.mix_debug.proofs.Holding.{shortened}
use Rattle.mix_debug.proofs.past.Past.trim.Goals as goal

pub returns-clause-past : goal.returns-clause-past
returns-clause-past c =
    let p : Past = c.args.self.now in
    let q : Past = record { ready = p.ready; heads = c.truncate_back.new.self; spans = c.truncate_back-2.new.self; olds = c.truncate_back-3.new.self; trimmed = true } in
    let left = shortened p q c.requires (c.truncate_back.ensures ∙ ap (λ n. buffer (take n p.heads.items) p.heads.capacity) c.fitting-counts.ensures.steps)
    (c.truncate_back-2.ensures ∙ ap (λ n. buffer (take n p.spans.items) p.spans.capacity) c.fitting-counts.ensures.spans) (c.truncate_back-3.ensures ∙ ap (λ n. buffer (take n p.olds.items) p.olds.capacity) c.fitting-counts.ensures.olds) in
    left.past

pub returns-clause-entries : goal.returns-clause-entries
returns-clause-entries c =
    let p : Past = c.args.self.now in
    let q : Past = record { ready = p.ready; heads = c.truncate_back.new.self; spans = c.truncate_back-2.new.self; olds = c.truncate_back-3.new.self; trimmed = true } in
    let left = shortened p q c.requires (c.truncate_back.ensures ∙ ap (λ n. buffer (take n p.heads.items) p.heads.capacity) c.fitting-counts.ensures.steps)
    (c.truncate_back-2.ensures ∙ ap (λ n. buffer (take n p.spans.items) p.spans.capacity) c.fitting-counts.ensures.spans) (c.truncate_back-3.ensures ∙ ap (λ n. buffer (take n p.olds.items) p.olds.capacity) c.fitting-counts.ensures.olds) in
    left.entries_are
