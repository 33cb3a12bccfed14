use Rattle.binhex.proofs.Packed.{gives_back}
use Rattle.binhex.proofs.laws.packed_law.Goals as goal

pub returns : goal.returns
returns c = gives_back
