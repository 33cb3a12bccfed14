-- An address whose mark is not set is none.
use Rattle.std.proofs.Common.{◌≡◌, ◌/◌, ◌%◌, false, All, get_or, slice_index_or, sym, ap, subst, ◌∙◌}
use Rattle.gdb_steps.specs.inner.Marks.{IsMarked}
use Rattle.gdb_steps.proofs.Marking.{unmarked}
use Rattle.gdb_steps.proofs.breakpoints.Breakpoints.has.Goals as goal

pub returns-else-index : goal.returns-else-index
returns-else-index c =
    let marks = c.self.inside.marked.items in
    let none : slice_index_or marks (c.args.a / 2 % 1024) false ≡ false =
    ap (λ k. get_or marks k false) (sym c.mark_of.ensures) ∙ (ap (get_or marks c.mark_of.result) (sym c.if-index.false) ∙ (sym c.index.ensures ∙ c.if-index.false)) in
    c.if-index.false ∙ sym (unmarked marks c.args.a c.args.self.now none (subst (All (IsMarked marks)) c.self.view_is c.self.invariant.1))
