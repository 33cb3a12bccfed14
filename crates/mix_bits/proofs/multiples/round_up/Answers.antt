use Rattle.std.proofs.Math.Nat.{mul-mod_left}
use Rattle.mix_bits.proofs.multiples.round_up.Goals as goal

pub returns-clause-whole : goal.returns-clause-whole
returns-clause-whole c = mul-mod_left _ c.args.multiple
