use Rattle.host_heap.specs.Space.{rounded}
use Rattle.host_heap.proofs.Keeps.{IsLowest-aligned}
use Rattle.host_heap.proofs.laws.place_is_aligned.Goals as goal

pub returns : goal.returns
returns c = λ s size address sound place. IsLowest-aligned s (rounded size) address sound place.1
