use Rattle.asm_m68.proofs.Complete.{given_named, gives_one}
use Rattle.asm_m68.proofs.Prefix.{none_missing}
use Rattle.asm_m68.proofs.Printed.{names_printed, texts_differ}
use Rattle.asm_m68.proofs.TakenBack.{first_given}
use Rattle.asm_m68.proofs.laws.asm_laws.Goals as goal

pub returns-clause-one : goal.returns-clause-one
returns-clause-one c = gives_one

pub returns-clause-named : goal.returns-clause-named
returns-clause-named c = given_named

pub returns-clause-texts : goal.returns-clause-texts
returns-clause-texts c = first_given

pub returns-clause-whole : goal.returns-clause-whole
returns-clause-whole c = none_missing

pub returns-clause-differ : goal.returns-clause-differ
returns-clause-differ c = texts_differ

pub returns-clause-names : goal.returns-clause-names
returns-clause-names c = names_printed
