-- What a step for the first time leaves.
use Rattle.std.proofs.Common.{◌≡◌, ◌≤◌, ℕ, List, ◌∷◌, refl, sym, ap, length, subst, take, ◌∙◌}
use Rattle.gdb_steps.specs.declared.used.Used.{Used}
use Rattle.gdb_steps.specs.inner.Held.{IsHeld}
use Rattle.gdb_steps.proofs.Holding.{counted-one, held-later, kept-more, safe-later, same-long}
use Rattle.gdb_steps.proofs.Leaving.{counts-first, one-more, stays-first}
use Rattle.gdb_steps.proofs.walker.Walker.first.Goals as goal

pub returns-then-not-is_done-clause-step : goal.returns-then-not-is_done-clause-step
returns-then-not-is_done-clause-step g c =
    stays-first c.args.self.now _ _ _ _ _ c.step_once-once.new.stop c.step_once-once.result.taken c.deref.result.now c.deref.ensures.value c.step_once-once.ensures.step (sym c.is_done.ensures ∙ c.if-not-is_done.true)
    (record { used = refl; past = refl; steps = refl; furthest = refl }) (record { input = refl; breakpoints = refl; watches = refl; snapshots = refl })

pub returns-clause-step : goal.returns-clause-step
returns-clause-step g c =
    counts-first c.args.self.now _ _ _ _ _ c.step_once-once.new.stop c.step_once-once.result.taken c.deref.result.now c.deref.ensures.value c.step_once-once.ensures.step (sym c.is_done.ensures ∙ c.if-not-is_done.false)
    (record {
      input = ap (λ (u : Used). u.input) c.go_on.ensures.here;
      asks = ap (λ (u : Used). u.asks) c.go_on.ensures.here ∙ ap length c.journal.ensures.journal;
      held = ap (λ (u : Used). take (length c.step_once-once.new.rack.slots) u.held) c.go_on.ensures.here ∙ c.held.ensures.held;
      past = ap (λ b. b.items) c.go_on.ensures.past;
      steps = one-more c.args.self.now.steps;
    }) refl (record { input = refl; breakpoints = refl; watches = refl; snapshots = refl })

pub invariant_of-self-2 : goal.invariant_of-self-2
invariant_of-self-2 g c =
    let past : c.go_on.new.past.items ≡ take c.args.self.now.past.capacity (c.args.self.now.used ∷ c.args.self.now.past.items) = ap (λ b. b.items) c.go_on.ensures.past in
    let fits : c.step_once-once.result.taken ≤ length c.args.self.now.input.items = subst (λ (xs : List ℕ). c.step_once-once.result.taken ≤ length xs) c.deref.ensures.value c.step_once-once.ensures.fits in
    record {
      held = subst (IsHeld c.args.self.now.input.items c.step_once-once.new.rack c.args.self.now.replay) (sym c.go_on.ensures.here)
          (held-later c.args.self.now.input.items c.args.self.now.real c.step_once-once.new.rack c.args.self.now.replay c.args.self.now.used _ c.step_once-once.ensures.step.devices c.args.self.now.held fits
          (same-long c.journal.result.now c.step_once-once.new.rack.journal c.journal.ensures.journal));
      kept = kept-more c.args.self.now.input.items c.args.self.now.real c.step_once-once.new.rack c.args.self.now.replay c.args.self.now.used c.args.self.now.past.items c.go_on.new.past.items c.args.self.now.past.capacity
          c.step_once-once.ensures.step.devices past c.args.self.now.held c.args.self.now.kept;
      counted = counted-one c.args.self.now.past.capacity c.args.self.now.used c.args.self.now.past.items c.go_on.new.past.items c.args.self.now.steps c.args.self.now.furthest past c.args.self.now.counted;
      safe = safe-later c.args.self.now.input.items c.args.self.now.real c.step_once-once.new.rack c.args.self.now.snapshots c.step_once-once.ensures.step.devices c.args.self.now.safe;
      few = c.args.self.now.few;
    }
