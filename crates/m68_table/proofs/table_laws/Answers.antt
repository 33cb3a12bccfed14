use Rattle.m68_table.proofs.Table.{one_section, one_row}
use Rattle.m68_table.proofs.Counts.{in_a_row, privileged}
use Rattle.m68_table.proofs.Modes.{modes, sizes}
use Rattle.m68_table.proofs.table_laws.Goals as goal

pub returns : goal.returns
returns c = record { one_section = one_section; one_row = one_row; in_a_row = in_a_row; privileged = privileged; modes = modes; sizes = sizes }
