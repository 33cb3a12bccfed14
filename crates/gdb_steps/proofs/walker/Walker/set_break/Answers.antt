-- An address more is set, and nothing else.
use Rattle.gdb_steps.proofs.Alike.{same-walker}
use Rattle.gdb_steps.proofs.walker.Walker.set_break.Goals as goal

pub returns-clause-beside : goal.returns-clause-beside
returns-clause-beside g c = same-walker c.args.self.now c.set.new.self c.args.self.now.watches _ _ _ _ _
