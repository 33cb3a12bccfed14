-- The list gets shorter.
use Rattle.std.proofs.Common.{length}
use Rattle.args_m68.proofs.gather.+append_values.Given as goal

abbrev pub decreases-append_values : goal.decreases-append_values
decreases-append_values l = length l.params.now
