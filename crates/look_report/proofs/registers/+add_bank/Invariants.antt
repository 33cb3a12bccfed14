-- The registers get fewer.
use Rattle.std.proofs.Common.{length}
use Rattle.look_report.proofs.registers.+add_bank.Given as goal

abbrev pub decreases-add_bank : goal.decreases-add_bank
decreases-add_bank l = length l.values.now
