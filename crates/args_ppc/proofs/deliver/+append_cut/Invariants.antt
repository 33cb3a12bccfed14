-- The list gets shorter.
use Rattle.std.proofs.Common.{length}
use Rattle.args_ppc.proofs.deliver.+append_cut.Given as goal

abbrev pub decreases-append_cut : goal.decreases-append_cut
decreases-append_cut l = length l.params.now
