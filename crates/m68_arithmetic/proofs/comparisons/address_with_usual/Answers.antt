use Rattle.std.proofs.Common.{◌≡◌, arith}
use Rattle.std.proofs.lemmas.Bool.Decides.{nat_tests}
use Rattle.mix_bits.specs.declared.size.Size.TheVariants.{Four}
use Rattle.m68_isa.specs.First.{long_or_word}
use Rattle.m68_arithmetic.proofs.comparisons.address_with_usual.Goals as goal

pub returns-then-bit8_of-eq0 : goal.returns-then-bit8_of-eq0
returns-then-bit8_of-eq0 c = rw (← c.bit8_of.ensures.is, c.if-bit8_of-eq0.true) c.address_sized.ensures

pub returns-else-bit8_of-eq0 : goal.returns-else-bit8_of-eq0
returns-else-bit8_of-eq0 c =
    let four : long_or_word c.bit8_of.result ≡ Four = grind (arith, nat_tests) in
    rw (← c.bit8_of.ensures.is, four) c.address_sized-else-bit8_of-eq0.ensures
