-- A run of the program: one call with the words, over files that tell nothing, an input and two outputs as they are
-- told, and devices that were not asked.
use Rattle.std.specs.Prelude.{◌≡◌, ℕ, ◌⊎◌, List, Option, None}
use Rattle.mix_io.specs.Streams.{Output}
use Rattle.dev_rack.specs.Rack.{State}
use Rattle.mix_top.specs.World.{World}
use Rattle.mix_top.specs.WorldClauses.{two_devices}
use Rattle.mix_top.specs.Ends.{Ends}

-- the output and the trace of a call
pub record Outputs : Type 0 where
  pub out : Output
  pub trace : Output

-- a world that a call begins with: its files and what is kept tell nothing, and no count of theirs has risen
pub record Begins (bytes : Option (List ℕ)) (failures : ℕ) (devices : State) (held : Outputs) (world : World) : Type 0 where
  pub files : world.shelf.contents ≡ None
  pub shelf : (name : List ℕ) → world.shelf.counts.faults name ≡ 0
  pub excesses : (name : List ℕ) → world.shelf.counts.excesses name ≡ 0
  pub left : world.beside.outside.input.left ≡ bytes
  pub input : world.beside.outside.input.faults ≡ failures
  pub rack : world.beside.outside.rack ≡ devices
  pub out : world.beside.outside.out ≡ held.out
  pub trace : world.beside.trace ≡ held.trace
  pub kept : world.beside.keep.kept ≡ None
  pub keep : (name : List ℕ) → world.beside.keep.faults name ≡ 0

-- the status is one that a call with these words ends with, and the outputs are what it leaves
pub record Runs (words : List (List ℕ)) (left : Option (List ℕ)) (faults : ℕ) (rack : State) (old new : Outputs) (status : ℕ) : Type 0 where
  pub before : World
  pub after : World
  pub begins : Begins left faults rack old before
  pub ends : Ends words before after status
  pub out : after.beside.outside.out ≡ new.out
  pub trace : after.beside.trace ≡ new.trace

-- a run beside a counter in slot 0 and a tape in slot 1, whose input has not failed; or there was no memory to begin, and nothing was put
abbrev pub RunsIfRoom : List (List ℕ) → Option (List ℕ) → Outputs → Outputs → ℕ → Type 0
RunsIfRoom words left old new status = Runs words left 0 two_devices old new status ⊎ ((new ≡ old) × (status ≡ 9))
