-- Each call reads one word less.
use Rattle.std.proofs.Common.{length}
use Rattle.look_words.proofs.program.+read_map.Given as goal

abbrev pub decreases-read_map : goal.decreases-read_map
decreases-read_map l = length l.words.now
