-- Bytes that were seen in watched ranges.
use Rattle.std.specs.Prelude.{◌≡◌, ℕ, bytes_eq, if◌then◌else◌, List, [], ◌∷◌, Option, None, Some}
use Rattle.big_memory.specs.Lists.{part}
use Rattle.gdb_steps.specs.declared.halt.Halt.{Halt}
use Rattle.gdb_steps.specs.declared.halt.Halt.TheVariants.{Arrived, Breakpoint, Watched}
use Rattle.gdb_steps.specs.declared.watch.Watch.{Watch}

-- those of this memory were seen
abbrev pub HasSeen : List ℕ → Watch → Type 0
HasSeen ram w = w.seen.items ≡ part w.at w.count ram

-- the address of the first range that has other bytes than were seen
unfoldable pub first_unlike : List Watch → List ℕ → Option ℕ
first_unlike [] ram = None
first_unlike (w ∷ ws) ram = if bytes_eq w.seen.items (part w.at w.count ram) then first_unlike ws ram else Some w.at

-- a walk is not stopped by an end of the program there
pub data Plain : Halt → Type 0 where
  AtBreak : Plain Breakpoint
  AtWatch : (a : ℕ) → Plain (Watched a)
  There : Plain Arrived
