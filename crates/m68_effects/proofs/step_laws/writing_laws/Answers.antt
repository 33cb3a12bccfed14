use Rattle.m68_effects.proofs.Steps.{unwritten}
use Rattle.m68_effects.proofs.step_laws.writing_laws.Goals as goal

pub returns : goal.returns
returns c = unwritten
