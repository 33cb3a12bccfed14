use Rattle.std.proofs.Common.{◌≡◌, ◌∙◌, ◌+◌, ap, sym, subst, ℕ, length, le_antisymm}
use Rattle.std.proofs.lemmas.List.{with_items_is}
use Rattle.pef_head.specs.inner.Relocations.{HasHeadersFor}
use Rattle.pef_head.proofs.relocations.header_table.Goals as goal

pub note_header-requires-clause-noted : goal.note_header-requires-clause-noted
note_header-requires-clause-noted c =
    subst (HasHeadersFor c.args.bytes.now c.args.l c.loop-h.h) (sym c.deref_mut.ensures.value) c.loop-h.invariant.noted

-- the table has what was written
pub loop-h-preserved : goal.loop-h-preserved
loop-h-preserved c =
    let len : length c.note_header.new.table ≡ length c.loop-h.table.items = c.note_header.ensures.len ∙ ap length c.deref_mut.ensures.value in
    let back = with_items_is c.loop-h.table c.note_header.new.table (len ∙ sym c.loop-h.table.ok.0) in
    record {
      noted = subst (HasHeadersFor c.args.bytes.now c.args.l (c.loop-h.h + 1)) (sym back) c.note_header.ensures.noted;
      len = ap length back ∙ (len ∙ c.loop-h.invariant.len);
    }

pub returns-clause-noted : goal.returns-clause-noted
returns-clause-noted c =
    subst (λ (n : ℕ). HasHeadersFor c.args.bytes.now c.args.l n c.loop-h.table.items) (le_antisymm c.loop-h.auto.h-end c.loop-h-test.false) c.loop-h.invariant.noted

pub returns-clause-len : goal.returns-clause-len
returns-clause-len c = c.loop-h.invariant.len
