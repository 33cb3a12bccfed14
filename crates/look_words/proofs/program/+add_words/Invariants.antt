-- Each call reads one word less.
use Rattle.std.proofs.Common.{length}
use Rattle.look_words.proofs.program.+add_words.Given as goal

abbrev pub decreases-add_words : goal.decreases-add_words
decreases-add_words l = length l.words.now
