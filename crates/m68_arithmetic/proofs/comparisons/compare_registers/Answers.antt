use Rattle.std.proofs.Common.{◌≡◌, ◌<◌, arith, subst, sym}
use Rattle.std.proofs.lemmas.Bool.Decides.{nat_tests}
use Rattle.mix_bits.specs.declared.size.Size.TheVariants.{Two}
use Rattle.m68_isa.specs.First.{size_of}
use Rattle.m68_arithmetic.proofs.comparisons.compare_registers.Goals as goal

pub returns-then-is_long : goal.returns-then-is_long
returns-then-is_long c = rw (c.is_long.ensures.long c.if-is_long.true) c.with_other.ensures

pub returns-in-0 : goal.returns-in-0
returns-in-0 c = rw (← c.size_bits_of.ensures.is, c.in-0.is) c.with_other-in-0.ensures

pub returns-in_default : goal.returns-in_default
returns-in_default c =
    let small : c.size_bits_of.result < 2 = subst (λ n. n < 2) (sym c.size_bits_of.ensures.is) (c.is_long.ensures.short c.if-is_long.false) in
    let two : size_of c.size_bits_of.result ≡ Two = grind (arith, nat_tests, small) in
    rw (← c.size_bits_of.ensures.is, two) c.with_other-in_default.ensures
