use Rattle.std.proofs.Common.{length}
use Rattle.proc_info.proofs.writer.+packed.Given as goal

abbrev pub decreases-packed : goal.decreases-packed
decreases-packed l = length l.params.now
