-- So many slots were looked at.
use Rattle.std.proofs.Common.{◌≡◌, is_some, length, map, take}
use Rattle.gdb_steps.proofs.replay.held_in.Given as goal

abbrev pub invariant-loop-at : goal.invariant-loop-at
invariant-loop-at l = (length l.held ≡ 8) × (take l.at l.held ≡ map is_some (take l.at l.slots))
