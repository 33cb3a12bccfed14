use Rattle.std.proofs.Common.{◌≡◌, ◌<◌, arith}
use Rattle.m68_isa.specs.First.{first_of}
use Rattle.m68_movement.proofs.single.tst_usual.Goals as goal

pub returns-then-is_long : goal.returns-then-is_long
returns-then-is_long c = rw (c.is_long.ensures.long c.if-is_long.true) c.test_usual.ensures

pub returns-in-0 : goal.returns-in-0
returns-in-0 c = rw (← c.size_bits_of.ensures.is, c.in-0.is) c.test_usual-in-0.ensures

pub returns-in_default : goal.returns-in_default
returns-in_default c =
    let short : (first_of c.args.word).size < 2 = c.is_long.ensures.short c.if-is_long.false in
    let one : c.size_bits_of.result ≡ 1 = omega (arith, short, c.size_bits_of.ensures.is) in
    rw (← c.size_bits_of.ensures.is, one) c.test_usual-in_default.ensures
