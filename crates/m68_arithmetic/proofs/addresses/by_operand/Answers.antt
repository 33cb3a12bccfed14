use Rattle.std.proofs.Common.{◌≡◌, arith}
use Rattle.std.proofs.lemmas.Bool.Decides.{nat_tests}
use Rattle.mix_bits.specs.declared.size.Size.TheVariants.{Four}
use Rattle.m68_isa.specs.First.{long_or_word}
use Rattle.m68_arithmetic.proofs.addresses.by_operand.Goals as goal

pub returns-then-bit8_of-eq0 : goal.returns-then-bit8_of-eq0
returns-then-bit8_of-eq0 c = rw (← c.bit8_of.ensures.is, c.if-bit8_of-eq0.true) c.into_address.ensures

pub returns-else-bit8_of-eq0 : goal.returns-else-bit8_of-eq0
returns-else-bit8_of-eq0 c =
    let four : long_or_word c.bit8_of.result ≡ Four = grind (arith, nat_tests) in
    rw (← c.bit8_of.ensures.is, four) c.into_address-else-bit8_of-eq0.ensures
