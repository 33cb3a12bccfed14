use Rattle.std.proofs.Common.{◌≡◌, arith}
use Rattle.mix_bits.specs.declared.size.Size.TheVariants.{Four}
use Rattle.m68_isa.specs.First.{first_of, size_of}
use Rattle.m68_movement.proofs.Sizes.{long_size}
use Rattle.m68_movement.proofs.single.tst_operand.Goals as goal

pub returns-in-0 : goal.returns-in-0
returns-in-0 c = rw (← c.size_bits_of.ensures.is, c.in-0.is, ← c.mode_of-mode.ensures.is, ← c.lower_of-lower.ensures.is) c.test.ensures

pub returns-in-1 : goal.returns-in-1
returns-in-1 c = rw (← c.size_bits_of.ensures.is, c.in-1.is, ← c.mode_of-mode.ensures.is, ← c.lower_of-lower.ensures.is) c.test-in-1.ensures

pub returns-in_default : goal.returns-in_default
returns-in_default c =
    let size : size_of (first_of c.args.word).size ≡ Four = long_size (first_of c.args.word).size (omega arith) (omega arith) in
    rw (size, ← c.mode_of-mode.ensures.is, ← c.lower_of-lower.ensures.is) c.test-in_default.ensures
