-- An address is cleared, and nothing else.
use Rattle.gdb_steps.proofs.Alike.{same-walker}
use Rattle.gdb_steps.proofs.walker.Walker.clear_break.Goals as goal

pub returns-clause-beside : goal.returns-clause-beside
returns-clause-beside g c = same-walker c.args.self.now c.clear.new.self c.args.self.now.watches _ _ _ _ _
