use Rattle.mix_load.proofs.Lying.{pieces_lie}
use Rattle.mix_load.proofs.laws.load_laws.Goals as goal

pub returns : goal.returns
returns c = pieces_lie
