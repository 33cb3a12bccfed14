use Rattle.std.proofs.Common.{length}
use Rattle.mix_io.proofs.memory_shelf.+find.Given as goal

abbrev pub decreases-find : goal.decreases-find
decreases-find l = length l.names.now
