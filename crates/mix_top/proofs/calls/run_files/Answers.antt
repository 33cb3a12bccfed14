-- The number of steps is dropped.
use Rattle.std.proofs.Common.{refl}
use Rattle.mix_top.proofs.calls.run_files.Goals as goal

pub returns-clause-way : goal.returns-clause-way
returns-clause-way g c = record { ending = c.run_files_counted.result; told = refl; ended = c.run_files_counted.ensures.way }
