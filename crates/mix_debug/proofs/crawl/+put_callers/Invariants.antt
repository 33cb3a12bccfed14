use Rattle.std.proofs.Common.{length}
use Rattle.switch_frame.specs.Chain.{records}
use Rattle.mix_debug.proofs.crawl.+put_callers.Given as goal

abbrev pub decreases-put_callers : goal.decreases-put_callers
decreases-put_callers g l = length (records l.ram.now.bytes l.lo)
