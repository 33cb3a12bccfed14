use Rattle.wrapped_forks.proofs.Wholes.{raw_back}
use Rattle.wrapped_forks.proofs.laws.raw_law.Goals as goal

pub returns : goal.returns
returns c = raw_back
