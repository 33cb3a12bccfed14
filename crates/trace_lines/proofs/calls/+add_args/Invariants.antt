-- The parameters get fewer.
use Rattle.std.proofs.Common.{length}
use Rattle.trace_lines.proofs.calls.+add_args.Given as goal

abbrev pub decreases-add_args : goal.decreases-add_args
decreases-add_args l = length l.params.now
