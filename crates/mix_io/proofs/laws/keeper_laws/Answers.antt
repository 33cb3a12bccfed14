use Rattle.mix_io.proofs.Keeps.{nothing-kept, saves-join, saves-front}
use Rattle.mix_io.proofs.laws.keeper_laws.Goals as goal

pub returns : goal.returns
returns c = record { nothing = nothing-kept; join = saves-join; front = saves-front }
