use Rattle.toolbox.proofs.Blaming.{blamed-after, calm-first}
use Rattle.toolbox.proofs.laws.blame_laws.Goals as goal

pub returns-clause-first : goal.returns-clause-first
returns-clause-first c = calm-first

pub returns-clause-after : goal.returns-clause-after
returns-clause-after c = blamed-after
