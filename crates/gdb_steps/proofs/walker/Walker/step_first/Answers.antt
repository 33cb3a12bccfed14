-- A step for the first time is one of the walk.
use Rattle.std.proofs.Common.{◌≡◌, ◌≤◌, ℕ, ◌∙◌, sym, arith}
use Rattle.gdb_steps.proofs.Stepwise.{first-ends, first-goes, seen-on}
use Rattle.gdb_steps.proofs.walker.Walker.step_first.Goals as goal

both : (m n : ℕ) → m ≤ n → n ≤ m → m ≡ n
both m n h k = omega (arith, h, k)

pub returns-then-first-clause-one : goal.returns-then-first-clause-one
returns-then-first-clause-one g c =
    λ b is. first-goes b c.args.until c.args.self.now c.first.new.self _ _ _ _ c.first.new.stop c.halt_here.result (sym c.first.ensures.answer ∙ c.if-first.true) c.first.ensures.step
    (both _ _ c.args.self.now.counted.order c.requires.furthest) c.requires.seen c.halt_here.ensures.value is

pub returns-then-first-clause-seen : goal.returns-then-first-clause-seen
returns-then-first-clause-seen g c = seen-on c.args.until c.first.new.self c.halt_here.result c.halt_here.ensures.value

pub returns-else-first-clause-one : goal.returns-else-first-clause-one
returns-else-first-clause-one g c =
    λ b is. first-ends b c.args.until c.args.self.now c.first.new.self _ _ _ _ c.first.new.stop (sym c.first.ensures.answer ∙ c.if-first.false) c.first.ensures.step
    (both _ _ c.args.self.now.counted.order c.requires.furthest) is
