-- A step that is done again is one of the walk.
use Rattle.std.proofs.Common.{sym, ◌∙◌}
use Rattle.gdb_steps.proofs.Leaving.{same-devices}
use Rattle.gdb_steps.proofs.Stepwise.{again-ends, again-goes, again-otherwise, seen-on}
use Rattle.gdb_steps.proofs.walker.Walker.step_again.Goals as goal

pub returns-then-not-again-clause-one : goal.returns-then-not-again-clause-one
returns-then-not-again-clause-one g c =
    λ b x is. again-otherwise b c.args.until c.args.self.now c.again.new.self x c.again.new.stop c.again.result c.if-not-again.true c.again.ensures.step c.requires.before is

pub returns-then-does_go_on-clause-one : goal.returns-then-does_go_on-clause-one
returns-then-does_go_on-clause-one g c =
    λ b x is. again-goes b c.args.until c.args.self.now c.again.new.self x c.again.new.stop c.again.result c.halt_here.result c.if-not-again.false (sym c.does_go_on.ensures ∙ c.if-does_go_on.true) c.again.ensures.step
    c.requires.before c.requires.seen c.halt_here.ensures.value is

pub returns-then-does_go_on-clause-seen : goal.returns-then-does_go_on-clause-seen
returns-then-does_go_on-clause-seen g c = seen-on c.args.until c.again.new.self c.halt_here.result c.halt_here.ensures.value

pub returns-else-does_go_on-clause-one : goal.returns-else-does_go_on-clause-one
returns-else-does_go_on-clause-one g c =
    λ b x is. again-ends b c.args.until c.args.self.now c.again.new.self x c.again.new.stop c.again.result (sym c.does_go_on.ensures ∙ c.if-does_go_on.false) c.again.ensures.step is

pub returns-then-not-again-clause-devices : goal.returns-then-not-again-clause-devices
returns-then-not-again-clause-devices g c = same-devices _ _ c.again.ensures.step.real

pub returns-then-does_go_on-clause-devices : goal.returns-then-does_go_on-clause-devices
returns-then-does_go_on-clause-devices g c = same-devices _ _ c.again.ensures.step.real

pub returns-else-does_go_on-clause-devices : goal.returns-else-does_go_on-clause-devices
returns-else-does_go_on-clause-devices g c = same-devices _ _ c.again.ensures.step.real
