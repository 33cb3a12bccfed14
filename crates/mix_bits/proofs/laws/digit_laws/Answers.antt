use Rattle.mix_bits.proofs.Replaced.{reads_replaced, others_stay}
use Rattle.mix_bits.proofs.laws.digit_laws.Goals as goal

pub returns : goal.returns
returns c = record { reads = reads_replaced; stays = others_stay }
