-- Bytes are seen, and nothing else.
use Rattle.gdb_steps.proofs.Alike.{same-walker}
use Rattle.gdb_steps.proofs.walker.Walker.look.Goals as goal

pub returns-clause-beside : goal.returns-clause-beside
returns-clause-beside g c = same-walker c.args.self.now c.args.self.now.breakpoints c.look.new.self _ _ _ _ _
