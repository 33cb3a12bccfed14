use Rattle.pef_head.proofs.MarkBits.{none_marked}
use Rattle.pef_head.proofs.marks.Marks.none.Goals as goal

pub returns : goal.returns
returns c = λ k. none_marked 1024 k
