use Rattle.gdb_answers.proofs.Digits.{registers_in_order, registers_read_back}
use Rattle.gdb_answers.proofs.Windows.{windows_are_whole}
use Rattle.gdb_answers.proofs.laws.answer_laws.Goals as goal

pub returns : goal.returns
returns c = record { registers = registers_read_back; order = registers_in_order; windows = windows_are_whole }
