use Rattle.mix_bits.proofs.NamesBack.{name_back}
use Rattle.mix_bits.proofs.laws.name_laws.Goals as goal

pub returns : goal.returns
returns c = record { back = name_back }
