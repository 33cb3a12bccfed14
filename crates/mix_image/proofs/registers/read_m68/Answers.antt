use Rattle.std.proofs.Common.{arith}
use Rattle.mix_image.proofs.Tails.{m68-bad, m68-ok}
use Rattle.mix_image.proofs.registers.read_m68.Goals as goal

pub returns-then-longs-lt32 : goal.returns-then-longs-lt32
returns-then-longs-lt32 c =
    m68-ok c.args.bytes.now c.read_longs.new.to c.args.at c.from_longs.result c.read_longs.ensures.longs (omega arith) c.if-longs-lt32.true c.from_longs.ensures.value

pub returns-else-longs-lt32 : goal.returns-else-longs-lt32
returns-else-longs-lt32 c =
    m68-bad c.args.bytes.now c.read_longs.new.to c.args.at c.read_longs.ensures.longs (omega arith) c.if-longs-lt32.false
