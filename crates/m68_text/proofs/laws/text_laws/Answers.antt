use Rattle.m68_text.proofs.Apart.{names_apart}
use Rattle.m68_text.proofs.Listed.{all_names, listed}
use Rattle.m68_text.proofs.laws.text_laws.Goals as goal

pub returns-clause-count : goal.returns-clause-count
returns-clause-count c = all_names

pub returns-clause-names : goal.returns-clause-names
returns-clause-names c = λ w ws i used below is. listed i used (c.table_laws.ensures.sizes w ws i used below is)

pub returns-clause-distinct : goal.returns-clause-distinct
returns-clause-distinct c = names_apart
