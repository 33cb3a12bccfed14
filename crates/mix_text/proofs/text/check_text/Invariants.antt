-- The lines before were not refused.
use Rattle.std.proofs.Common.{length}
use Rattle.mix_text.proofs.Walks.{Walked}
use Rattle.mix_text.proofs.text.check_text.Given as goal

abbrev pub invariant-lines : goal.invariant-lines
invariant-lines l = Walked l.set l.at l.text l.number l.next l.rest

abbrev pub decreases-lines : goal.decreases-lines
decreases-lines l = length l.rest
