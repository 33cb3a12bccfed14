use Rattle.wrapped_forks.proofs.Wholes.{binary_back}
use Rattle.wrapped_forks.proofs.laws.binary_law.Goals as goal

pub returns : goal.returns
returns c = binary_back
