-- Each call reads one word less.
use Rattle.std.proofs.Common.{length}
use Rattle.look_words.proofs.session.+read_gdb.Given as goal

abbrev pub decreases-read_gdb : goal.decreases-read_gdb
decreases-read_gdb l = length l.words.now
