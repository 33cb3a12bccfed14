-- The pieces get fewer.
use Rattle.std.proofs.Common.{length}
use Rattle.look_text.proofs.line.+add_line.Given as goal

abbrev pub decreases-add_line : goal.decreases-add_line
decreases-add_line l = length l.pieces.now
