-- The laws by their lemmas.
use Rattle.mode_switch.proofs.Callees.{begins-at_stack, fills-stack, of-set}
use Rattle.mode_switch.proofs.Meant.{means-wanted}
use Rattle.mode_switch.proofs.laws.switch_laws.Goals as goal

pub returns-clause-means : goal.returns-clause-means
returns-clause-means c = means-wanted

pub returns-clause-length : goal.returns-clause-length
returns-clause-length c = fills-stack

pub returns-clause-set : goal.returns-clause-set
returns-clause-set c = of-set

pub returns-clause-top : goal.returns-clause-top
returns-clause-top c = begins-at_stack
