-- The parameters get fewer.
use Rattle.std.proofs.Common.{length}
use Rattle.call_trace.proofs.lines.+add_arguments.Given as goal

abbrev pub decreases-add_arguments : goal.decreases-add_arguments
decreases-add_arguments l = length l.params.now
