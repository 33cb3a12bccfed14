-- So many slots were filled.
use Rattle.std.proofs.Common.{◌≡◌, is_some, map, take}
use Rattle.gdb_steps.proofs.replay.fill.Given as goal

abbrev pub invariant-loop-at : goal.invariant-loop-at
invariant-loop-at l = map is_some (take l.at l.slots) ≡ take l.at l.held
