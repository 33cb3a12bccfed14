use Rattle.std.proofs.Common.{◌-◌}
use Rattle.ppc_core.proofs.Order.{words-refused}
use Rattle.ppc_core.proofs.multiple.load_each.Goals as goal

pub returns-in-Err : goal.returns-in-Err
returns-in-Err c =
    rw (words-refused c.args.ram.now c.args.at c.args.first c.args.regs.now.gpr (32 - c.args.first) c.in-Err.access c.in-Err.ensures)
    (c.refuse.ensures c.args.regs.now c.args.ram.now)
