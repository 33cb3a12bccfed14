-- Tests one after the other.
use Rattle.std.proofs.Common.{true, false, refl}
use Rattle.mix_bits.specs.laws.Laws.{BothHold}

pub both : BothHold
both true c h = (refl, h)
both false c h = cc
