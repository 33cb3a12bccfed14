use Rattle.host_heap.proofs.Placing.{place_is_unique}
use Rattle.host_heap.proofs.laws.place_is_unique.Goals as goal

pub returns : goal.returns
returns c = place_is_unique
