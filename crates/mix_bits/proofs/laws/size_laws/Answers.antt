use Rattle.mix_bits.proofs.Sizes.{bytes-few}
use Rattle.mix_bits.proofs.laws.size_laws.Goals as goal

pub returns : goal.returns
returns c = record { few = bytes-few }
