-- The symbols of one byte more.
use Rattle.std.proofs.Common.{arith}
use Rattle.std.proofs.lemmas.Grind.{common_steps}
use Rattle.binhex.proofs.Numbers.{symbols_append}
use Rattle.binhex.proofs.text.numbers.Goals as goal

pub loop-byte-preserved : goal.loop-byte-preserved
loop-byte-preserved c = grind (arith, common_steps, symbols_append)
