use Rattle.std.proofs.Common.{IfSome, ◌<◌, sym, subst}
use Rattle.big_memory.specs.Map.{host_functions}
use Rattle.toolbox.specs.NamesClauses.{IsImportIndex}
use Rattle.toolbox.proofs.ByName.{imports_numbered, index_from}
use Rattle.toolbox.proofs.imports.import_index.Goals as goal

pub returns-clause-is : goal.returns-clause-is
returns-clause-is c = subst (IsImportIndex c.args.library.now c.args.name.now) (sym c.import_number.ensures) (index_from c.args.library.now c.args.name.now)

pub returns-clause-below : goal.returns-clause-below
returns-clause-below c = subst (λ r. IfSome r (λ k. k < host_functions)) (sym c.import_number.ensures) (imports_numbered c.args.library.now c.args.name.now)
