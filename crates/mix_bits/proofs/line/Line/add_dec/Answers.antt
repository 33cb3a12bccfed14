-- There are at most ten digits, so they fit.
use Rattle.std.proofs.Common.{arith}
use Rattle.mix_bits.proofs.Decimals.{decimal_short, appended_short, appended_whole}
use Rattle.mix_bits.proofs.line.Line.add_dec.Goals as goal

pub returns-clause-text : goal.returns-clause-text
returns-clause-text c = appended_whole 160 _ _ _ c.dec-fits.result (omega (arith, decimal_short c.args.v (omega arith))) c.dec-fits.ensures

pub returns-clause-short : goal.returns-clause-short
returns-clause-short c = appended_short 160 _ _ c.args.v c.dec-fits.result (omega arith) c.dec-fits.ensures
