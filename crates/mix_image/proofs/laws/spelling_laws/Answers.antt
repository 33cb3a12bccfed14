use Rattle.std.proofs.Common.{refl}
use Rattle.big_memory.specs.Numbers.{bytes_of_longs}
use Rattle.mix_image.proofs.Finishing.{restored-back, spelling_is_restored, spellings_differ}
use Rattle.mix_image.proofs.laws.spelling_laws.Goals as goal

pub returns : goal.returns
unfolding bytes_of_longs
returns c = record { restored = spelling_is_restored; spelled = restored-back; apart = spellings_differ; text = refl }
