-- The step that is taken back is the newest.
use Rattle.std.proofs.Common.{◌≡◌, ◌∙◌, ◌-◌, List, ap, drop, refl, slice_get, Some, subst, sym, true}
use Rattle.mix_debug.specs.TrailsClauses.{TakesBack, Trail}
use Rattle.gdb_steps.specs.declared.used.Used.{Used}
use Rattle.gdb_steps.specs.inner.Backing.{Returns}
use Rattle.gdb_steps.specs.Walkers.{places, run_of}
use Rattle.gdb_steps.proofs.Firsts.{run}
use Rattle.gdb_steps.proofs.Holding.{counted-less, held-back, kept-less, some-steps}
use Rattle.gdb_steps.proofs.Returning.{back-one, none-kept, none-used}
use Rattle.gdb_steps.proofs.walker.Walker.step_back.Goals as goal

pub returns-then-is_empty-clause-back : goal.returns-then-is_empty-clause-back
returns-then-is_empty-clause-back g c =
    record {
      returns = none-used c.args.self.now.past.items c.args.self.now.debug.kept (run_of c.args.self.now) (run_of c.args.self.now) (sym c.is_empty.ensures ∙ c.if-is_empty.true) refl refl;
      keeps = record { input = refl; breakpoints = refl; watches = refl; snapshots = refl };
    }

pub returns-then-not-back-clause-back : goal.returns-then-not-back-clause-back
returns-then-not-back-clause-back g c =
    record {
      returns = none-kept c.args.self.now.debug.kept c.args.self.now.past.items c.args.self.now.debug c.back.new.self (run_of c.args.self.now) _
          (subst (λ t. TakesBack t c.args.self.now.debug.kept c.args.self.now.debug c.back.new.self) c.if-not-back.true c.back.ensures.back) refl
          (λ same. ap (λ (d : Trail). run c.args.self.now.input.items d c.args.self.now.used c.args.self.now.real c.args.self.now.steps c.args.self.now.past.items c.args.self.now.furthest c.args.self.now.snapshots) same);
      keeps = record { input = refl; breakpoints = refl; watches = refl; snapshots = refl };
    }

pub invariant_of-self-2 : goal.invariant_of-self-2
invariant_of-self-2 g c =
    let got : slice_get c.args.self.now.past.items 0 ≡ Some c.in-Some.used = sym c.pop_front.ensures.value ∙ c.in-Some.is in
    let left : c.pop_front.new.self.items ≡ drop 1 c.args.self.now.past.items = ap (λ b. b.items) c.pop_front.ensures.items in
    record {
      held = held-back c.args.self.now.input.items c.args.self.now.real c.args.self.now.replay c.args.self.now.used c.in-Some.used c.args.self.now.past.items got c.args.self.now.kept c.args.self.now.held;
      kept = kept-less c.args.self.now.input.items c.args.self.now.real c.args.self.now.past.items c.pop_front.new.self.items left c.args.self.now.kept;
      counted = counted-less c.args.self.now.past.items c.pop_front.new.self.items c.args.self.now.steps c.args.self.now.furthest left c.args.self.now.counted;
      safe = c.args.self.now.safe;
      few = c.args.self.now.few;
    }

pub returns-clause-back : goal.returns-clause-back
returns-clause-back g c =
    let got : slice_get c.args.self.now.past.items 0 ≡ Some c.in-Some.used = sym c.pop_front.ensures.value ∙ c.in-Some.is in
    let left : c.pop_front.new.self.items ≡ drop 1 c.args.self.now.past.items = ap (λ b. b.items) c.pop_front.ensures.items in
    record {
      returns = subst (λ (us : List Used). Returns true (places c.args.self.now.debug.kept c.args.self.now.past.items) (run_of c.args.self.now)
          (run c.args.self.now.input.items c.back.new.self c.in-Some.used c.args.self.now.real (c.args.self.now.steps - 1) us c.args.self.now.furthest c.args.self.now.snapshots)) (sym left)
          (back-one c.args.self.now.debug.kept c.args.self.now.past.items c.args.self.now.input.items c.args.self.now.debug c.back.new.self c.args.self.now.used c.args.self.now.real c.args.self.now.steps c.args.self.now.furthest c.args.self.now.snapshots
          c.in-Some.used refl (subst (λ t. TakesBack t c.args.self.now.debug.kept c.args.self.now.debug c.back.new.self) c.if-not-back.false c.back.ensures.back) got
          (some-steps c.args.self.now.past.items c.args.self.now.steps (sym c.is_empty.ensures ∙ c.if-is_empty.false) c.args.self.now.counted.few));
      keeps = record { input = refl; breakpoints = refl; watches = refl; snapshots = refl };
    }
