use Rattle.std.proofs.Common.{length}
use Rattle.mix_io.proofs.memory_shelf.+have_distinct_names.Given as goal

abbrev pub decreases-have_distinct_names : goal.decreases-have_distinct_names
decreases-have_distinct_names l = length l.names.now
