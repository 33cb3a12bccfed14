use Rattle.ppc_integer.proofs.Shifted.{top-is}
use Rattle.ppc_integer.proofs.branches.condition_at.Goals as goal

pub returns : goal.returns
returns c = top-is c.args.cr c.args.bit c.requires
