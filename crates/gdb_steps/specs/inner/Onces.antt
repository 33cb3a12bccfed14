-- What one step leaves of a walker.
use Rattle.std.specs.Prelude.{◌≡◌, ℕ, suc, Bool, true, false, if◌then◌else◌, List, ◌∷◌, length, map, take, drop, is_some, None, Option, Some}
use Rattle.mix_io.specs.Streams.{Output}
use Rattle.dev_rack.specs.Rack.{State as Rack}
use Rattle.mixed_machine.specs.declared.stop.Stop.{Stop}
use Rattle.mix_engine.specs.Ends.{goes_on}
use Rattle.mix_engine.specs.declared.machine.Machine.{Machine}
use Rattle.mix_debug.specs.TrailsClauses.{is_done}
use Rattle.switch_frame.specs.Files.{pc_of}
use Rattle.switch_frame.specs.Records.{isa_of}
use Rattle.std.specs.List.{list_any}
use Rattle.std.specs.Prelude.{◌==◌}
use Rattle.dev_rack.specs.declared.devices.Devices.{Ghosts}
use Rattle.gdb_steps.specs.Places.{IsFront}
use Rattle.gdb_steps.specs.Points.{halt_by}
use Rattle.gdb_steps.specs.Walkers.{run_of}
use Rattle.gdb_steps.specs.declared.halt.Halt.{Halt}
use Rattle.gdb_steps.specs.declared.halt.Halt.TheVariants.{Breakpoint}
use Rattle.gdb_steps.specs.declared.halt.Until.{Until}
use Rattle.gdb_steps.specs.declared.walker.Walker.{Walker}
use Rattle.gdb_steps.specs.declared.watch.Watch.{Watch}
use Rattle.gdb_steps.specs.inner.Looks.{first_unlike}
use Rattle.gdb_steps.specs.inner.Steps.{AreAt, Steps, stands}

-- one more step is done, behind which so much is used up as devices tell
pub record Counted {D : Type 0} {G : Ghosts D} (taken : ℕ) (rack : Rack) (w v : Walker D G) : Type 0 where
  pub input : v.used.input ≡ taken
  pub asks : v.used.asks ≡ length rack.journal
  pub held : take (length rack.slots) v.used.held ≡ map is_some rack.slots
  pub past : v.past.items ≡ take w.past.capacity (w.used ∷ w.past.items)
  pub steps : v.steps ≡ suc w.steps

-- none is
pub record Stays {D : Type 0} {G : Ghosts D} (w v : Walker D G) : Type 0 where
  pub used : v.used ≡ w.used
  pub past : v.past.items ≡ w.past.items
  pub steps : v.steps ≡ w.steps
  pub furthest : v.furthest ≡ w.furthest

-- what no step changes
pub record Keeps {D : Type 0} {G : Ghosts D} (w v : Walker D G) : Type 0 where
  pub input : v.input.items ≡ w.input.items
  pub breakpoints : v.breakpoints ≡ w.breakpoints
  pub watches : v.watches ≡ w.watches
  pub snapshots : v.snapshots ≡ w.snapshots

abbrev pub AfterFirst : {D : Type 0} {G : Ghosts D} → Bool → ℕ → Walker D G → Walker D G → Type 0
AfterFirst true taken w v = Counted taken v.real w v × (v.furthest ≡ v.steps)
AfterFirst false taken w v = Stays w v

-- a step for the first time
pub record FirstStep {D : Type 0} {G : Ghosts D} (w v : Walker D G) (o p t u : Output) (stop : Stop) : Type 0 where
  pub taken : ℕ
  pub step : Steps w.debug v.debug (stands w.debug (drop w.used.input w.input.items) w.real o t) (stands v.debug (drop taken w.input.items) v.real p u) stop
  pub after : AfterFirst (is_done stop) taken w v
  pub keeps : Keeps w v

abbrev pub nothing : Output
nothing = record { held = None; faults = 0 }

abbrev pub AfterAgain : {D : Type 0} {G : Ghosts D} → Bool → Bool → ℕ → Rack → Walker D G → Walker D G → Type 0
AfterAgain false asked taken rack w v = Stays w v × (asked ≡ true)
AfterAgain true false taken rack w v = (IsFront rack.journal w.real.journal → ⊥) × (v.furthest ≡ w.furthest)
AfterAgain true true taken rack w v = IsFront rack.journal w.real.journal × Counted taken rack w v × (v.furthest ≡ w.furthest)

-- a step that is done again, and whether the asks were those of the journal
pub record AgainStep {D : Type 0} {G : Ghosts D} (w v : Walker D G) (stop : Stop) (asked : Bool) : Type 0 where
  pub old : Rack
  pub new : Rack
  pub taken : ℕ
  pub at : AreAt ((run_of w).given) ((run_of w).here) old
  pub count : length old.slots ≡ length w.real.slots
  pub step : Steps w.debug v.debug (stands w.debug (drop w.used.input w.input.items) old nothing nothing) (stands v.debug (drop taken w.input.items) new nothing nothing) stop
  pub after : AfterAgain (goes_on stop) asked taken new w v
  pub real : v.real ≡ w.real
  pub keeps : Keeps w v

-- what stops a walk, by the bytes that were seen
abbrev pub halt_seen : List ℕ → List Watch → Until → Machine → Option Halt
halt_seen breaks watches until m =
    if list_any (λ b. b == pc_of m.active) breaks then Some Breakpoint else halt_by until (isa_of m.active) (first_unlike watches m.body.ram.bytes)
