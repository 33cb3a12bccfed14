-- Each call looks at one record less.
use Rattle.std.proofs.Common.{length}
use Rattle.routine_desc.proofs.choice.+look.Given as goal

abbrev pub decreases-look : goal.decreases-look
decreases-look l = length l.recs.now
