-- What is written of a number is ASCII.
use Rattle.std.proofs.Common.{sym}
use Rattle.mix_bits.proofs.ReadDecimals.{decimal_in_ascii}
use Rattle.mix_bits.proofs.number.read_decimal.Goals as goal

pub returns-in-Err : goal.returns-in-Err
returns-in-Err c = sym (decimal_in_ascii c.args.text.now c.in-Err.ensures.cases.0)
