-- The line is long enough.
use Rattle.std.proofs.Common.{sym}
use Rattle.look_why.proofs.Walks.{length_front}
use Rattle.look_why.proofs.report.front.Goals as goal

pub slice_bounds-result-end : goal.slice_bounds-result-end
slice_bounds-result-end c = sym (length_front c.args.line.now 80 c.requires)

pub returns-clause-long : goal.returns-clause-long
returns-clause-long c = length_front c.args.line.now 80 c.requires
