use Rattle.std.proofs.Common.{◌<◌, length, arith, sym}
use Rattle.std.proofs.lemmas.Nat.{and_mask}
use Rattle.big_memory.proofs.Lists.{put-one}
use Rattle.big_memory.proofs.bytes.write_number.Goals as goal

pub returns-in-One : goal.returns-in-One
returns-in-One c =
    let within : c.args.at < length c.args.bytes.now = omega (arith, rw c.in-One.is at c.requires) in
    rw (c.in-One.is, and_mask c.args.v 8) (sym (put-one _ _ _ within))
