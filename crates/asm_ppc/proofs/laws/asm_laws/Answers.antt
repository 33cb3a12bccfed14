use Rattle.asm_ppc.proofs.Complete.{given_named, gives_one}
use Rattle.asm_ppc.proofs.Printed.{names_printed, texts_differ}
use Rattle.asm_ppc.proofs.laws.asm_laws.Goals as goal

pub returns-clause-one : goal.returns-clause-one
returns-clause-one c = gives_one

pub returns-clause-named : goal.returns-clause-named
returns-clause-named c = given_named

pub returns-clause-differ : goal.returns-clause-differ
returns-clause-differ c = texts_differ

pub returns-clause-names : goal.returns-clause-names
returns-clause-names c = names_printed
