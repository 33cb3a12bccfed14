use Rattle.host_heap.proofs.Keeps.{IsSound-freed}
use Rattle.host_heap.proofs.laws.freeing_keeps_sound.Goals as goal

pub returns : goal.returns
returns c = IsSound-freed
