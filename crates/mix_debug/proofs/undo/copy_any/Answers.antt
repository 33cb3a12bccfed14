use Rattle.mix_debug.proofs.Empty.{none_copied}
use Rattle.mix_debug.proofs.undo.copy_any.Goals as goal

pub returns-then-low-high : goal.returns-then-low-high
returns-then-low-high c = none_copied c.args.low c.args.high c.args.bytes.now c.args.copy.now c.if-low-high.true
