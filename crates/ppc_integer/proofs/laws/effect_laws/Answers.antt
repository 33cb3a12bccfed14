use Rattle.ppc_integer.proofs.Leaving.{leaves-at_host}
use Rattle.ppc_integer.proofs.laws.effect_laws.Goals as goal

pub returns : goal.returns
returns c = leaves-at_host
