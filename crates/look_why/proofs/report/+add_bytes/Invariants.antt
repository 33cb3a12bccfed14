-- Each call appends one byte.
use Rattle.std.proofs.Common.{length}
use Rattle.look_why.proofs.report.+add_bytes.Given as goal

abbrev pub decreases-add_bytes : goal.decreases-add_bytes
decreases-add_bytes l = length l.bytes.now
