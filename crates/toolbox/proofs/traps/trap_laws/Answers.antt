use Rattle.toolbox.proofs.OneNumber.{one_number}
use Rattle.toolbox.proofs.traps.trap_laws.Goals as goal

pub returns : goal.returns
returns c = one_number
