-- A range more is watched, and nothing else.
use Rattle.gdb_steps.proofs.Alike.{same-walker}
use Rattle.gdb_steps.proofs.walker.Walker.set_watch.Goals as goal

pub returns-clause-beside : goal.returns-clause-beside
returns-clause-beside g c = same-walker c.args.self.now c.args.self.now.breakpoints c.set.new.self _ _ _ _ _
