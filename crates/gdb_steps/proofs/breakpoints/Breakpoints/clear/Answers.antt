-- The addresses that are left are marked as before.
use Rattle.std.proofs.Common.{◌≡◌, ◌∙◌, ◌==◌, ap, filter, not, rules}
use Rattle.std.proofs.lemmas.List.Elements.{All-filter, All-same}
use Rattle.arrayvec.proofs.ArrayVecLemmas.{filter-from_retain}
use Rattle.gdb_steps.specs.inner.Marks.{IsMarked}
use Rattle.gdb_steps.proofs.breakpoints.Breakpoints.clear.Goals as goal

pub invariant_of-self : goal.invariant_of-self
invariant_of-self c =
    let left : c.retain.new.self.items ≡ filter (λ b. not (b == c.args.a)) c.self.inside.addresses.items = filter-from_retain _ _ _ (λ x b f' y called. search rules) _ _ c.retain.ensures.filtered in (
      c.self.invariant.0,
      All-same (IsMarked c.self.inside.marked.items) _ _ left (All-filter (λ b. not (b == c.args.a)) (IsMarked c.self.inside.marked.items) _ c.self.invariant.1),
    )

pub returns-clause-after : goal.returns-clause-after
returns-clause-after c =
    let left : c.retain.new.self.items ≡ filter (λ b. not (b == c.args.a)) c.self.inside.addresses.items = filter-from_retain _ _ _ (λ x b f' y called. search rules) _ _ c.retain.ensures.filtered in
    left ∙ ap (filter (λ b. not (b == c.args.a))) c.self.view_is
