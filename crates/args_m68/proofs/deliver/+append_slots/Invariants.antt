-- The list gets shorter.
use Rattle.std.proofs.Common.{length}
use Rattle.args_m68.proofs.deliver.+append_slots.Given as goal

abbrev pub decreases-append_slots : goal.decreases-append_slots
decreases-append_slots l = length l.params.now
