use Rattle.std.proofs.Common.{length}
use Rattle.switch_frame.specs.Chain.{records}
use Rattle.gdb_answers.proofs.registers.+suspended.Given as goal

abbrev pub decreases-suspended : goal.decreases-suspended
decreases-suspended l = length (records l.ram.now.bytes l.lo)
