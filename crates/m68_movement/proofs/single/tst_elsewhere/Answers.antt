use Rattle.std.proofs.Common.{◌≡◌, arith}
use Rattle.mix_bits.specs.declared.size.Size.TheVariants.{Four}
use Rattle.m68_isa.specs.First.{first_of, size_of}
use Rattle.m68_movement.proofs.Sizes.{long_size}
use Rattle.m68_movement.proofs.single.tst_elsewhere.Goals as goal

pub returns-in-0 : goal.returns-in-0
returns-in-0 c = rw (← c.size_bits_of.ensures.is, c.in-0.is) c.test_at.ensures

pub returns-in-1 : goal.returns-in-1
returns-in-1 c = rw (← c.size_bits_of.ensures.is, c.in-1.is) c.test_at-in-1.ensures

pub returns-in_default-size_bits_of : goal.returns-in_default-size_bits_of
returns-in_default-size_bits_of c =
    let size : size_of (first_of c.args.word).size ≡ Four = long_size (first_of c.args.word).size (omega arith) (omega arith) in
    rw size c.test_at-in_default-size_bits_of.ensures
