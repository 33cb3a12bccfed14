use Rattle.mix_top.proofs.Joining.{continued-one}
use Rattle.mix_top.proofs.laws.checkpoint_laws.Goals as goal

pub returns : goal.returns
returns c = continued-one
