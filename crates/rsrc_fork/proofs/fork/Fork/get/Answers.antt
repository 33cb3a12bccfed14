use Rattle.rsrc_fork.proofs.Small.{small_piece}
use Rattle.rsrc_fork.proofs.fork.Fork.get.Goals as goal

pub returns-clause-small : goal.returns-clause-small
returns-clause-small c = small_piece c.find.result _ _ c.self.invariant c.find.ensures
