use Rattle.host_heap.proofs.Keeps.{IsSound-taken}
use Rattle.host_heap.proofs.laws.taking_keeps_sound.Goals as goal

pub returns : goal.returns
returns c = IsSound-taken
