-- So many slots hold a device.
use Rattle.std.proofs.Common.{◌≡◌, length, replicate, take, true}
use Rattle.gdb_steps.proofs.real.first_slots.Given as goal

abbrev pub invariant-loop-at : goal.invariant-loop-at
invariant-loop-at l = (length l.held ≡ 8) × (take l.at l.held ≡ replicate l.at true)
