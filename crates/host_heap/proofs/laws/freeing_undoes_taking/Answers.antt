use Rattle.host_heap.proofs.Undo.{freed-taken}
use Rattle.host_heap.proofs.laws.freeing_undoes_taking.Goals as goal

pub returns : goal.returns
returns c = freed-taken
