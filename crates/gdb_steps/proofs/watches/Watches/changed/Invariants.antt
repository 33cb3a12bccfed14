-- So many ranges have the bytes that were seen.
use Rattle.std.proofs.Common.{◌≡◌, drop}
use Rattle.gdb_steps.specs.inner.Looks.{first_unlike}
use Rattle.gdb_steps.proofs.watches.Watches.changed.Given as goal

abbrev pub invariant-loop-watch : goal.invariant-loop-watch
invariant-loop-watch l = first_unlike l.watch-items l.ram ≡ first_unlike (drop l.watch-index l.watch-items) l.ram
