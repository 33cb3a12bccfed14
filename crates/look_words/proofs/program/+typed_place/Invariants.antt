-- Each word is passed once.
use Rattle.std.proofs.Common.{length}
use Rattle.look_words.proofs.program.+typed_place.Given as goal

abbrev pub decreases-typed_place : goal.decreases-typed_place
decreases-typed_place l = length l.words.now
