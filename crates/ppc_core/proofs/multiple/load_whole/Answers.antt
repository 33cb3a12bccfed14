use Rattle.std.proofs.Common.{◌≡◌, ◌-◌, length, arith, rules}
use Rattle.ppc_core.proofs.Pieces.{words-whole}
use Rattle.ppc_core.proofs.multiple.load_whole.Goals as goal

pub returns : goal.returns
returns c =
    let gpr : length c.args.gpr.now ≡ 32 = search rules in
    words-whole c.args.ram.now c.args.at c.args.first (32 - c.args.first) _ c.args.gpr.now c.read_longs.new.to c.requires.ram (omega arith) (omega arith) (search rules) c.read_longs.ensures
