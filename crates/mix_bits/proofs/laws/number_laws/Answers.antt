use Rattle.mix_bits.proofs.ReadDecimals.{reads_decimals}
use Rattle.mix_bits.proofs.ReadHexadecimals.{reads_hexadecimals}
use Rattle.mix_bits.proofs.laws.number_laws.Goals as goal

pub returns : goal.returns
returns c = record { decimals = reads_decimals; hexadecimals = reads_hexadecimals }
