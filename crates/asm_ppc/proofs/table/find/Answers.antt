use Rattle.asm_ppc.specs.inner.Table.{looked_up, table}
use Rattle.asm_ppc.proofs.table.find.Goals as goal

pub returns : goal.returns
unfolding looked_up table
returns c = c.find_in.ensures
