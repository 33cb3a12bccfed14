-- The world of A5, the segments and the table, one behind the other.
use Rattle.std.proofs.Common.{◌≡◌, ◌∙◌, ℕ, List, ◌++◌, ap}
use Rattle.mix_load.specs.Segments.{a5_of, has_table, header_of, segments_end, segments_start}
use Rattle.mix_load.specs.SegmentsClauses.{segment_places}
use Rattle.look_text.specs.Forks.{a5_line, segments_text, table_text}
use Rattle.look_text.proofs.Lines.{next}
use Rattle.look_text.proofs.fork.add_world.Goals as goal

pub returns-clause-text : goal.returns-clause-text
returns-clause-text c =
    let code0 : List ℕ = c.args.code0.now in
    let a5 : c.a5_of.result ≡ a5_of (header_of code0) = c.a5_of.ensures.is ∙ ap a5_of c.read_header-h.ensures in
    let start : c.segments_start.result ≡ segments_start (header_of code0) = c.segments_start.ensures.is ∙ ap segments_start c.read_header-h.ensures in
    let places : c.deref.result.now ≡ segment_places c.args.fork.now (segments_start (header_of code0)) c.args.ids =
    c.deref.ensures.value ∙ (c.in_ok-end.ensures.places ∙ ap (λ (s : ℕ). segment_places c.args.fork.now s c.args.ids) start) in
    next _ _ _ _ _ _ c.in_ok-add_table.ensures
    (next _ _ _ _ _ _ c.in_ok-end.ensures.text (c.in_ok-add_a5.ensures ∙ ap (λ (a : ℕ). c.args.text.now.items ++ a5_line a) a5)
    (ap (λ (s : ℕ). segments_text c.args.fork.now s c.args.ids) start)) (ap (λ (ps : List ℕ). table_text c.args.fork.now ps code0 (has_table code0)) places)

pub returns-clause-end : goal.returns-clause-end
returns-clause-end c =
    c.in_ok-end.ensures.end
    ∙ ap (λ (s : ℕ). segments_end c.args.fork.now s c.args.ids) (c.segments_start.ensures.is ∙ ap segments_start c.read_header-h.ensures)

pub returns-clause-near : goal.returns-clause-near
returns-clause-near c = c.in_ok-end.ensures.near
