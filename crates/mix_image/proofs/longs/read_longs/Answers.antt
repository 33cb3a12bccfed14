use Rattle.std.proofs.Common.{length, arith}
use Rattle.mix_image.proofs.LongBytes.{longs_read}
use Rattle.mix_image.proofs.longs.read_longs.Goals as goal

pub returns-clause-longs : goal.returns-clause-longs
returns-clause-longs c = longs_read c.args.at (length c.args.to.now) c.args.bytes.now c.each.to c.each.auto.to (λ k within. c.each.invariant k (omega (arith, within)))
