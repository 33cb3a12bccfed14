-- The number of steps is dropped.
use Rattle.std.proofs.Common.{refl}
use Rattle.mix_top.proofs.top.mixed_main.Goals as goal

pub returns : goal.returns
returns g c = record { ending = c.mixed_main_counted.result; told = refl; ended = c.mixed_main_counted.ensures }
