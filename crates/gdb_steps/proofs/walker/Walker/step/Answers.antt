-- A step of either kind.
use Rattle.gdb_steps.proofs.walker.Walker.step.Goals as goal

pub returns-then-self-clause-one : goal.returns-then-self-clause-one
returns-then-self-clause-one g c = λ b is. c.step_again.ensures.one b _ is
