use Rattle.m68_isa.proofs.Opposites.{opposite}
use Rattle.m68_isa.proofs.conditions.condition_law.Goals as goal

pub returns : goal.returns
returns c = opposite
