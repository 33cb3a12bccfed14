use Rattle.pef_reloc.proofs.Table.{has_all_rows, has_one_row, is_spelled_back}
use Rattle.pef_reloc.proofs.laws.table_laws.Goals as goal

pub returns : goal.returns
returns c = record { one_row = has_one_row; spelled = is_spelled_back; all = has_all_rows }
