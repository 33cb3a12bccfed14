use Rattle.toolbox.proofs.OneNumber.{index_from, numbers-own}
use Rattle.toolbox.proofs.ByName.{imports-have_one, imports_numbered}
use Rattle.toolbox.proofs.laws.table_laws.Goals as goal

pub returns-clause-numbers : goal.returns-clause-numbers
returns-clause-numbers c = numbers-own

pub returns-clause-traps : goal.returns-clause-traps
returns-clause-traps c = index_from

pub returns-clause-imports : goal.returns-clause-imports
returns-clause-imports c = imports-have_one

pub returns-clause-numbered : goal.returns-clause-numbered
returns-clause-numbered c = imports_numbered
