-- How many bytes a value has.
use Rattle.std.proofs.Common.{◌≤◌, arith}
use Rattle.mix_bits.specs.declared.size.Size.TheVariants.{Zero, One, Two, Four}
use Rattle.mix_bits.specs.laws.Laws.{FewBytes}

pub bytes-few : FewBytes
bytes-few Zero = omega arith
bytes-few One = omega arith
bytes-few Two = omega arith
bytes-few Four = omega arith
