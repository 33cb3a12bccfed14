use Rattle.std.proofs.Common.{◌∙◌, ◌+◌, ap, sym, subst, ℕ, length, le_antisymm}
use Rattle.std.proofs.lemmas.List.{with_items_is}
use Rattle.pef_head.specs.inner.Owners.{HasOwners}
use Rattle.pef_head.proofs.table.owner_table.Goals as goal

pub fill-requires-clause-room : goal.fill-requires-clause-room
fill-requires-clause-room c = ap length c.deref_mut.ensures.value ∙ c.loop-j.invariant.room

pub fill-requires-clause-filled : goal.fill-requires-clause-filled
fill-requires-clause-filled c =
    subst (HasOwners c.args.bytes.now c.args.l c.loop-j.j) (sym c.deref_mut.ensures.value) c.loop-j.invariant.filled

-- the table has what was written
pub loop-j-preserved : goal.loop-j-preserved
loop-j-preserved c =
    let back = with_items_is c.loop-j.table c.fill.new.table (c.fill.ensures.room ∙ sym (c.loop-j.table.ok.0 ∙ c.loop-j.invariant.room)) in
    record {
      filled = subst (HasOwners c.args.bytes.now c.args.l (c.loop-j.j + 1)) (sym back) c.fill.ensures.filled;
      room = ap length back ∙ c.fill.ensures.room;
    }

pub returns-clause-filled : goal.returns-clause-filled
returns-clause-filled c =
    subst (λ (n : ℕ). HasOwners c.args.bytes.now c.args.l n c.loop-j.table.items) (le_antisymm c.loop-j.auto.j-end c.loop-j-test.false) c.loop-j.invariant.filled

pub returns-clause-room : goal.returns-clause-room
returns-clause-room c = c.loop-j.invariant.room
