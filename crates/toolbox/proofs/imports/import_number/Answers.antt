use Rattle.std.proofs.Common.{lit≤}
use Rattle.toolbox.specs.Names.{import_index}
use Rattle.toolbox.proofs.imports.import_number.Goals as goal

pub import_from-requires : goal.import_from-requires
import_from-requires c = lit≤ tt

pub returns : goal.returns
unfolding import_index
returns c = c.import_from.ensures
