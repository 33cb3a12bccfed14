-- The list gets shorter.
use Rattle.std.proofs.Common.{length}
use Rattle.args_m68.proofs.places.+widths.Given as goal

abbrev pub decreases-widths : goal.decreases-widths
decreases-widths l = length l.params.now
