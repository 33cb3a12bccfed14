use Rattle.std.proofs.Common.{◌*◌, take}
use Rattle.mix_image.specs.Spelling.{block_longs}
use Rattle.mix_image.proofs.Saving.{HasPiece}
use Rattle.mix_image.proofs.saved.save_some.Given as goal

abbrev pub invariant-each : goal.invariant-each
invariant-each g l = HasPiece l.piece.items (block_longs (take l.block-index l.blocks)) (2 * l.block-index)
