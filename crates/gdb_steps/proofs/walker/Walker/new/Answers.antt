-- Before the first step.
use Rattle.std.proofs.Common.{◌≡◌, ap, is_some, length, map, refl, subst, sym, take, ◌∙◌}
use Rattle.dev_rack.specs.Rack.{State}
use Rattle.gdb_steps.specs.Walkers.{IsFresh}
use Rattle.gdb_steps.proofs.Beginnings.{fresh-begins}
use Rattle.gdb_steps.proofs.walker.Walker.new.Goals as goal

pub returns-clause-begins : goal.returns-clause-begins
returns-clause-begins g c =
    fresh-begins c.args.machine c.args.input.items c.args.slots c.held.result _ c.in_ok-snapshots.ensures.0 c.in_ok-snapshots.ensures.1 c.in_ok-new.ensures refl
    (subst (IsFresh c.args.slots) (sym (c.real.view_is ∙ c.new-real.ensures)) c.requires.fresh) refl
    (subst (λ (r : State). take (length r.slots) c.held.result ≡ map is_some r.slots) (sym c.real.view_is) c.held.ensures.held)
    (ap (λ b. b.items) c.in_ok-with_capacity.ensures) refl refl (c.snapshots.view_is ∙ c.in_ok-snapshots.ensures.2) c.in_ok-new-2.ensures c.in_ok-new-3.ensures
