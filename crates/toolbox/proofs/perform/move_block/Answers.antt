-- A move that is not refused is done.
use Rattle.toolbox.proofs.Carried.{moved}
use Rattle.toolbox.proofs.perform.move_block.Goals as goal

pub returns-in-Ok : goal.returns-in-Ok
returns-in-Ok c = λ heap outside. moved c.laws.ensures c.args.operands c.one.result c.args.ram.now _ heap outside c.copy.result c.one.ensures c.meets_invariant.ensures c.in-Ok.is c.copy.ensures
