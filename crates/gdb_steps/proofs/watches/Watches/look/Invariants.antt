-- So many ranges were seen.
use Rattle.std.proofs.Common.{◌≡◌, ◌<◌, ℕ, get_or, map}
use Rattle.gdb_steps.specs.declared.watch.Watch.{Watch}
use Rattle.gdb_steps.specs.Points.{range_of}
use Rattle.gdb_steps.specs.inner.Looks.{HasSeen}
use Rattle.gdb_steps.proofs.watches.Watches.look.Given as goal

abbrev pub invariant-loop-watch : goal.invariant-loop-watch
invariant-loop-watch l =
    (map range_of l.watch-items ≡ map range_of l.initial.watch-items) × ((k : ℕ) (d : Watch) → k < l.watch-index → HasSeen l.ram (get_or l.watch-items k d))
