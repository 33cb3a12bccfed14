use Rattle.binhex.proofs.Wholes.{forks_back}
use Rattle.binhex.proofs.laws.forks_law.Goals as goal

pub returns : goal.returns
returns c = forks_back
