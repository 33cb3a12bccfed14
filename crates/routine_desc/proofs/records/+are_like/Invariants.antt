-- Each call looks at one record less.
use Rattle.std.proofs.Common.{length}
use Rattle.routine_desc.proofs.records.+are_like.Given as goal

abbrev pub decreases-are_like : goal.decreases-are_like
decreases-are_like l = length l.recs.now
