use Rattle.ppc_core.proofs.Order.{store-refused}
use Rattle.ppc_core.proofs.strings.store_string.Goals as goal

pub returns-in-Err : goal.returns-in-Err
returns-in-Err c =
    rw (store-refused c.args.ram.now c.args.at c.args.first c.args.regs.now.gpr c.args.length c.in-Err.access c.meets_invariant.ensures c.in-Err.ensures)
    (c.refuse.ensures c.args.regs.now c.args.ram.now)
