-- A range is watched no more, and nothing else.
use Rattle.gdb_steps.proofs.Alike.{same-walker}
use Rattle.gdb_steps.proofs.walker.Walker.clear_watch.Goals as goal

pub returns-clause-beside : goal.returns-clause-beside
returns-clause-beside g c = same-walker c.args.self.now c.args.self.now.breakpoints c.clear.new.self _ _ _ _ _
