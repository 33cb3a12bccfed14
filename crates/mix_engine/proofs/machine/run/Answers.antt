-- A run that tells how many steps are left is a run.
use Rattle.mix_engine.proofs.machine.run.Goals as goal

pub returns-clause-run : goal.returns-clause-run
returns-clause-run g c = record { left = c.run_counted.new.left; fewer = c.run_counted.ensures.run.fewer; run = c.run_counted.ensures.run.run }
