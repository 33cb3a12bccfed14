-- The callers get fewer.
use Rattle.std.proofs.Common.{length}
use Rattle.switch_frame.specs.Chain.{records}
use Rattle.look_report.proofs.frames.+add_numbered.Given as goal

abbrev pub decreases-add_numbered : goal.decreases-add_numbered
decreases-add_numbered l = length (records l.ram.now.bytes l.lo)
