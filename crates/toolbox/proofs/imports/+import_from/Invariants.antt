-- The imports get fewer.
use Rattle.std.proofs.Common.{length}
use Rattle.toolbox.proofs.imports.+import_from.Given as goal

abbrev pub decreases-import_from : goal.decreases-import_from
decreases-import_from l = length l.imports.now
