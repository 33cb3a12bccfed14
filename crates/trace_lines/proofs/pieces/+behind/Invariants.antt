-- The mark gets shorter.
use Rattle.std.proofs.Common.{length}
use Rattle.trace_lines.proofs.pieces.+behind.Given as goal

abbrev pub decreases-behind : goal.decreases-behind
decreases-behind l = length l.mark.now
