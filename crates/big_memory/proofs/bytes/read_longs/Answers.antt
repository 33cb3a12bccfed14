use Rattle.std.proofs.Common.{◌≡◌, ◌+◌, ◌-◌, ◌*◌, length, take, drop, arith, ap, ◌∙◌}
use Rattle.big_memory.specs.Numbers.{longs_at}
use Rattle.big_memory.proofs.Numbers.{longs-read}
use Rattle.big_memory.proofs.bytes.read_longs.Goals as goal

pub returns-clause-longs : goal.returns-clause-longs
returns-clause-longs c =
    let at = c.args.at in
    let bytes = c.args.bytes.now in
    let size : at + 4 * length c.args.to.now - at ≡ 4 * length c.args.to.now = omega arith in
    let same : length c.read_u32_into.new.dst ≡ length c.args.to.now = c.read_u32_into.auto.dst in
    longs-read at (4 * length c.args.to.now) bytes _ c.read_u32_into.new.dst (omega (arith, same)) (ap (λ n. take n (drop at bytes)) size) c.read_u32_into.ensures
    ∙ ap (λ n. longs_at n at bytes) same
