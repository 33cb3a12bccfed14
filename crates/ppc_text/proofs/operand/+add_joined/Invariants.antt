-- The operands get fewer.
use Rattle.std.proofs.Common.{length}
use Rattle.ppc_text.proofs.operand.+add_joined.Given as goal

abbrev pub decreases-add_joined : goal.decreases-add_joined
decreases-add_joined l = length l.operands.now
