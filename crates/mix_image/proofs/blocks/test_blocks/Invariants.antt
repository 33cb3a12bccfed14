use Rattle.mix_image.proofs.Testing.{IsTestedTo}
use Rattle.mix_image.proofs.blocks.test_blocks.Given as goal

abbrev pub invariant-each : goal.invariant-each
invariant-each l = IsTestedTo l.bytes l.low l.high l.k l.end
