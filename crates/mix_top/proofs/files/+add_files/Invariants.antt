-- Each call adds the file of one key less.
use Rattle.std.proofs.Common.{length}
use Rattle.mix_top.proofs.files.+add_files.Given as goal

abbrev pub decreases-add_files : goal.decreases-add_files
decreases-add_files g l = length l.keys.now
