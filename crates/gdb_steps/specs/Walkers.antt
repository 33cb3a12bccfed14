-- The run at which a walker stands.
use Rattle.std.specs.Prelude.{◌≡◌, ℕ, List, [], ◌∷◌, is_some, length, map, replicate, true}
use Rattle.mix_io.specs.Streams.{Output}
use Rattle.dev_rack.specs.Rack.{State}
use Rattle.mixed_machine.specs.Runs.{Sinks}
use Rattle.mix_engine.specs.declared.machine.Machine.{Machine}
use Rattle.mix_debug.specs.CostsClauses.{Kept}
use Rattle.dev_rack.specs.declared.devices.Devices.{Ghosts}
use Rattle.gdb_steps.specs.Places.{Begin, Place, Run}
use Rattle.gdb_steps.specs.Points.{Points, range_of}
use Rattle.gdb_steps.specs.declared.used.Used.{Used}
use Rattle.gdb_steps.specs.declared.walker.Walker.{Walker}

-- a machine before its first step, with so many devices in the slots from 0 on
abbrev pub begin_of : Machine → List ℕ → ℕ → Begin
begin_of machine input devices = record { machine = machine; input = input; slots = replicate devices true }

-- devices in that many slots, none of which was asked
pub record IsFresh (devices : ℕ) (rack : State) : Type 0 where
  pub slots : map is_some rack.slots ≡ replicate devices true
  pub count : length rack.slots ≡ devices
  pub journal : rack.journal ≡ []

-- machines, each with what was used up there, as far as both are kept
unfoldable pub places : List Kept → List Used → List Place
places [] us = []
places (k ∷ ks) [] = []
places (k ∷ ks) (u ∷ us) = record { machine = k.machine; used = u } ∷ places ks us

abbrev pub run_of : {D : Type 0} {G : Ghosts D} → Walker D G → Run
run_of w =
    record {
      given = record { input = w.input.items; journal = w.real.journal; slots = length w.real.slots };
      rack = w.real;
      here = record { machine = w.debug.machine; used = w.used };
      steps = w.steps;
      past = places w.debug.kept w.past.items;
      furthest = w.furthest;
      kept = w.snapshots;
    }

abbrev pub points_of : {D : Type 0} {G : Ghosts D} → Walker D G → Points
points_of w = record { breaks = w.breakpoints; watches = map range_of w.watches }

abbrev pub sinks : Output → Output → Sinks
sinks out trace = record { out = out; trace = trace }
