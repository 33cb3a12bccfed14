-- Each call reads one word less.
use Rattle.std.proofs.Common.{length}
use Rattle.job_words.proofs.words.+read_settings.Given as goal

abbrev pub decreases-read_settings : goal.decreases-read_settings
decreases-read_settings l = length l.words.now
