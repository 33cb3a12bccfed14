-- A step that is done again.
use Rattle.std.proofs.Common.{sym, ◌∙◌}
use Rattle.gdb_steps.proofs.Overing.{moved-on, steps-on, strays-ended, strays-over}
use Rattle.gdb_steps.proofs.walker.Walker.step_over.Goals as goal
use Rattle.gdb_steps.proofs.walker.Walker.step_over.Goals.{else-again-via-then-again+else-does_go_on, else-again-via-else-again}

pub returns-then-does_go_on-clause-moves : goal.returns-then-does_go_on-clause-moves
returns-then-does_go_on-clause-moves g c = (
  moved-on c.args.self.now c.again.new.self c.again.new.stop c.again.result c.if-again.true (sym c.does_go_on.ensures ∙ c.if-does_go_on.true) c.again.ensures.step c.requires.before,
  steps-on c.args.self.now c.again.new.self c.again.new.stop c.again.result c.if-again.true (sym c.does_go_on.ensures ∙ c.if-does_go_on.true) c.again.ensures.step,
)

pub returns-else-again-clause-moves : goal.returns-else-again-clause-moves
returns-else-again-clause-moves g c =
    λ b is.
    elim c.else-again.branch [
      | else-again-via-then-again+else-does_go_on w ↦
          strays-ended c.args.self.now c.again.new.self b c.again.new.stop c.again.result (sym w.does_go_on.ensures ∙ w.if-does_go_on.false) c.again.ensures.step is c.requires.before
      | else-again-via-else-again w ↦ strays-over c.args.self.now c.again.new.self b c.again.new.stop c.again.result w.if-again.false c.again.ensures.step is c.requires.before
    ]
