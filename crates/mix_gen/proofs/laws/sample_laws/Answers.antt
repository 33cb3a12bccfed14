use Rattle.mix_gen.proofs.Images.{length-sample}
use Rattle.mix_gen.proofs.laws.sample_laws.Goals as goal

pub returns : goal.returns
returns c = length-sample
