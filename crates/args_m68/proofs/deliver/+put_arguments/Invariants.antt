-- The list gets shorter.
use Rattle.std.proofs.Common.{length}
use Rattle.args_m68.proofs.deliver.+put_arguments.Given as goal

abbrev pub decreases-put_arguments : goal.decreases-put_arguments
decreases-put_arguments l = length l.params.now
