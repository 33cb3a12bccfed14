use Rattle.std.proofs.Common.{◌≡◌, Ok}
use Rattle.mix_image.specs.Fields.{blocks_from, empty_heap}
use Rattle.mix_image.proofs.blocks.read_blocks.Given as goal

abbrev pub invariant-each : goal.invariant-each
invariant-each l = blocks_from l.bytes (empty_heap l.low l.high) l.k ≡ Ok l.heap
