use Rattle.m68_effects.proofs.Tried.{then_by_others}
use Rattle.m68_effects.proofs.step_laws.tried_laws.Goals as goal

pub returns : goal.returns
returns c = then_by_others
