use Rattle.std.proofs.Common.{subst}
use Rattle.rsrc_fork.specs.laws.Walk.{ComesToEnd}
use Rattle.rsrc_fork.proofs.Walk.{comes_to_end, finds_all}
use Rattle.rsrc_fork.proofs.fork.Fork.id_laws.Goals as goal

pub returns-clause-all : goal.returns-clause-all
returns-clause-all c = finds_all c.args.self.now

pub returns-clause-end : goal.returns-clause-end
returns-clause-end c = subst ComesToEnd c.self.view_is (comes_to_end _ c.self.invariant)
