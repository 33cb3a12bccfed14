use Rattle.std.proofs.Common.{take}
use Rattle.mix_image.proofs.Saving.{HasPiece}
use Rattle.mix_image.proofs.saved.save_longs.Given as goal

abbrev pub invariant-each : goal.invariant-each
invariant-each g l = HasPiece l.piece.items (take l.long-index l.longs) l.long-index
