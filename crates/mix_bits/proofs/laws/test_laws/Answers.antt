use Rattle.mix_bits.proofs.Conditions.{both}
use Rattle.mix_bits.proofs.Every.{every_at}
use Rattle.mix_bits.proofs.laws.test_laws.Goals as goal

pub returns : goal.returns
returns c = record { both = both; each = every_at }
