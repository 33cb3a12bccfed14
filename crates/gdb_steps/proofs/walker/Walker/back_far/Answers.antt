-- The walk is stopped in a gap.
use Rattle.std.proofs.Common.{Some, subst}
use Rattle.gdb_steps.specs.Walkers.{points_of, run_of}
use Rattle.gdb_steps.specs.inner.Backing.{Backed}
use Rattle.gdb_steps.proofs.Backing.{backed-join, backed-stop}
use Rattle.gdb_steps.proofs.walker.Walker.back_far.Goals as goal

pub returns-in-Some-clause-walks : goal.returns-in-Some-clause-walks
returns-in-Some-clause-walks g c =
    backed-stop (points_of c.args.self.now) c.args.until c.args.low (run_of c.args.self.now) (run_of c.back_gap.new.self) c.in-Some.halt
    (backed-join (points_of c.args.self.now) c.args.until c.args.low (run_of c.args.self.now) (run_of c.gaps.self) (run_of c.back_gap.new.self) (Some c.in-Some.halt) c.gaps.invariant.backed
    (subst (λ h. Backed (points_of c.args.self.now) c.args.until c.args.low (run_of c.gaps.self) (run_of c.back_gap.new.self) h) c.in-Some.is
    (subst (λ p. Backed p c.args.until c.args.low (run_of c.gaps.self) (run_of c.back_gap.new.self) c.in_ok-halt.field-0) c.gaps.invariant.points c.in_ok-halt.ensures.walks)))
