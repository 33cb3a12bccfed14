use Rattle.std.proofs.Common.{subst, sym}
use Rattle.big_memory.specs.StepsClauses.{Does}
use Rattle.m68_core.proofs.Leaving.{line_below}
use Rattle.m68_core.proofs.step.run_word.Goals as goal

pub returns-clause-line : goal.returns-clause-line
returns-clause-line c =
    line_below c.args.regs.now c.run_op.new.regs c.args.ram.now c.run_op.new.ram c.args.word c.run_op.result c.run_op.new.fault c.requires.below c.requires.first.1
    (subst (λ x. Does x c.run_op.result c.run_op.new.fault c.args.regs.now c.run_op.new.regs c.args.ram.now c.run_op.new.ram) (sym c.step_law.ensures) c.run_op.ensures)
