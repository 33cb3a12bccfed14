-- A step of a debugger beside an input of which it took something.
use Rattle.std.specs.Prelude.{◌≡◌, ℕ, List, Some, map, is_some, take}
use Rattle.mix_io.specs.Streams.{Output}
use Rattle.switch_frame.specs.Records.{isa_of}
use Rattle.dev_rack.specs.Accounts.{Accounts}
use Rattle.dev_rack.specs.Rack.{State as Rack}
use Rattle.mixed_machine.specs.declared.stop.Stop.{Stop}
use Rattle.mixed_machine.specs.CountsClauses.{Blames, counts_of}
use Rattle.mixed_machine.specs.Machine.{IsWhole}
use Rattle.mixed_machine.specs.OutsideClauses.{At, at}
use Rattle.mixed_machine.specs.RunsClauses.{Runs}
use Rattle.mix_debug.specs.TrailsClauses.{Keeps, Trail, is_done}
use Rattle.gdb_steps.specs.Places.{Given, Place}

-- the machine of a debugger beside the bytes of the input that are left, devices and sinks
abbrev pub stands : Trail → List ℕ → Rack → Output → Output → At
stands d left rack out trace =
    at d.machine.body d.machine.active (record { input = record { left = Some left; faults = 0 }; rack = rack; out = out }) trace

-- a step of it, done or not
pub record Steps (d e : Trail) (from to : At) (stop : Stop) : Type 0 where
  pub here : IsWhole d.machine.body (isa_of d.machine.active)
  pub there : IsWhole e.machine.body (isa_of e.machine.active)
  pub run : Runs 1 from to stop
  pub blames : Blames stop (counts_of from) (counts_of to)
  pub devices : Accounts from.outside.rack to.outside.rack
  pub keeps : Keeps (is_done stop) d e

-- devices are those of a place
pub record AreAt (g : Given) (p : Place) (rack : Rack) : Type 0 where
  pub journal : rack.journal ≡ take p.used.asks g.journal
  pub slots : map is_some rack.slots ≡ take g.slots p.used.held
