use Rattle.m68_isa.proofs.Longs.{count, file_back, longs_back}
use Rattle.m68_isa.proofs.laws.long_laws.Goals as goal

pub returns : goal.returns
returns c = record { count = count; file = file_back; longs = longs_back }
