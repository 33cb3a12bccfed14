-- The whole walk back.
use Rattle.std.proofs.Common.{◌-◌, ℕ, Some, ap, ◌∙◌, subst}
use Rattle.gdb_steps.specs.Places.{Run}
use Rattle.gdb_steps.specs.Walkers.{points_of, run_of}
use Rattle.gdb_steps.specs.inner.Backing.{BackedTo}
use Rattle.gdb_steps.proofs.Backing.{back-stops}
use Rattle.gdb_steps.proofs.Stepwise.{looked-points, looked-run, looked-steps}
use Rattle.gdb_steps.proofs.walker.Walker.back.Goals as goal

pub returns-in-Ok-Some-clause-walks : goal.returns-in-Ok-Some-clause-walks
returns-in-Ok-Some-clause-walks g c =
    λ b is.
    back-stops b (points_of c.args.self.now) c.args.until c.args.budget c.saturating_sub.result c.in-Ok-Some.halt (run_of c.args.self.now) (run_of c.back_to.new.self)
    (c.saturating_sub.ensures ∙ ap (λ (k : ℕ). k - c.args.budget) (looked-steps c.args.self.now c.look.new.self c.look.ensures.beside))
    (subst (λ p. BackedTo p c.args.until c.saturating_sub.result (run_of c.args.self.now) (run_of c.back_to.new.self) (Some c.in-Ok-Some.halt)) (looked-points c.args.self.now c.look.new.self c.look.ensures.beside c.look.ensures.ranges)
    (subst (λ (r : Run). BackedTo (points_of c.look.new.self) c.args.until c.saturating_sub.result r (run_of c.back_to.new.self) (Some c.in-Ok-Some.halt)) (looked-run c.args.self.now c.look.new.self c.look.ensures.beside)
    (subst (λ h. BackedTo (points_of c.look.new.self) c.args.until c.saturating_sub.result (run_of c.look.new.self) (run_of c.back_to.new.self) h) c.in-Ok-Some.field-0-is c.in-Ok-Some.ensures.walks))) is
