use Rattle.std.proofs.Common.{arith, rules}
use Rattle.pef_head.proofs.MarkBits.{marked_too}
use Rattle.pef_head.proofs.marks.Marks.set.Goals as goal

pub returns : goal.returns
returns c = marked_too c.args.self.now c.args.k (search (rules, arith))
