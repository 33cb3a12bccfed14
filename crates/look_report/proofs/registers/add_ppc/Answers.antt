-- The lines of the rows, and the one behind them.
use Rattle.std.proofs.Common.{append_assoc}
use Rattle.look_report.proofs.registers.add_ppc.Goals as goal

pub returns : goal.returns
returns c =
    simp append_assoc at (rw (c.in_ok-add_row-4.ensures, c.in_ok-add_row-3.ensures, c.in_ok-add_row-2.ensures, c.in_ok-add_row.ensures)
    at c.add_special.ensures)
