use Rattle.std.proofs.Common.{length}
use Rattle.proc_info.proofs.reader.+names_twice.Given as goal

abbrev pub decreases-names_twice : goal.decreases-names_twice
decreases-names_twice l = length l.params.now
