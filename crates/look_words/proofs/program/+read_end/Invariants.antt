-- Each call reads one word less.
use Rattle.std.proofs.Common.{length}
use Rattle.look_words.proofs.program.+read_end.Given as goal

abbrev pub decreases-read_end : goal.decreases-read_end
decreases-read_end l = length l.words.now
