use Rattle.wrapped_forks.proofs.Wholes.{apple_back}
use Rattle.wrapped_forks.proofs.laws.apple_law.Goals as goal

pub returns : goal.returns
returns c = apple_back
