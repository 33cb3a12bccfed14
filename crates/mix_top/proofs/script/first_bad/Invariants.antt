-- The lines before were commands.
use Rattle.std.proofs.Common.{length}
use Rattle.mix_top.proofs.Splits.{Tested}
use Rattle.mix_top.proofs.script.first_bad.Given as goal

abbrev pub invariant-lines : goal.invariant-lines
invariant-lines l = Tested l.text l.number l.rest

abbrev pub decreases-lines : goal.decreases-lines
decreases-lines l = length l.rest
