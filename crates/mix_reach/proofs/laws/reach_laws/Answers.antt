use Rattle.mix_reach.proofs.Lifted.{stores_where_told}
use Rattle.mix_reach.proofs.laws.reach_laws.Goals as goal

pub returns : goal.returns
returns c = stores_where_told
