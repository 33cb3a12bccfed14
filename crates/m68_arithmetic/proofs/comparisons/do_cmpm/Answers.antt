use Rattle.std.proofs.Common.{◌≡◌, arith}
use Rattle.std.proofs.lemmas.Bool.Decides.{nat_tests}
use Rattle.mix_bits.specs.declared.size.Size.TheVariants.{Four}
use Rattle.m68_isa.specs.First.{size_of}
use Rattle.m68_arithmetic.proofs.comparisons.do_cmpm.Goals as goal

pub returns-in-0 : goal.returns-in-0
returns-in-0 c = rw (← c.size_bits_of.ensures.is, c.in-0.is) c.in_memory.ensures

pub returns-in-1 : goal.returns-in-1
returns-in-1 c = rw (← c.size_bits_of.ensures.is, c.in-1.is) c.in_memory-in-1.ensures

pub returns-in_default : goal.returns-in_default
returns-in_default c =
    let four : size_of c.size_bits_of.result ≡ Four = grind (arith, nat_tests) in
    rw (← c.size_bits_of.ensures.is, four) c.in_memory-in_default.ensures
