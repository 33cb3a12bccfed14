use Rattle.host_heap.proofs.Lowest.{lowest_fit-lowest}
use Rattle.host_heap.proofs.laws.lowest_fit_is_lowest.Goals as goal

pub returns : goal.returns
returns c = lowest_fit-lowest
