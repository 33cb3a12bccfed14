-- The callers get fewer.
use Rattle.std.proofs.Common.{length}
use Rattle.switch_frame.specs.Chain.{records}
use Rattle.look_report.proofs.frames.+add_hit.Given as goal

abbrev pub decreases-add_hit : goal.decreases-add_hit
decreases-add_hit l = length (records l.ram.now.bytes l.lo)
