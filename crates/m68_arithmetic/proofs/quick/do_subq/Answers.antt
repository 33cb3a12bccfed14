use Rattle.std.proofs.Common.{◌≢◌, arith}
use Rattle.mix_bits.specs.Digits.{digit_of}
use Rattle.m68_arithmetic.proofs.Alike.{subq_else}
use Rattle.m68_arithmetic.proofs.quick.do_subq.Goals as goal

pub returns-in-0 : goal.returns-in-0
returns-in-0 c =
    let other : digit_of c.args.word 3 3 ≢ 1 = omega arith in
    rw (subq_else, ← c.quick_of.ensures.is) c.change_register.ensures

pub returns-in_default : goal.returns-in_default
returns-in_default c =
    let other : digit_of c.args.word 3 3 ≢ 1 = omega arith in
    rw subq_else c.subtract_number.ensures
