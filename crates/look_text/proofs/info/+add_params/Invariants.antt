-- The parameters get fewer.
use Rattle.std.proofs.Common.{length}
use Rattle.look_text.proofs.info.+add_params.Given as goal

abbrev pub decreases-add_params : goal.decreases-add_params
decreases-add_params l = length l.params.now
