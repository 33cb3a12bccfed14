-- A run as gdb is served with it.
use Rattle.std.specs.Prelude.{◌≡◌, ℕ, Bool, false, List, []}
use Rattle.dev_rack.specs.Rack.{State as Rack}
use Rattle.mix_engine.specs.declared.machine.Machine.{Machine}
use Rattle.gdb_answers.specs.Answers.{Scene, scene_of}
use Rattle.gdb_steps.specs.Places.{IsRun, Run}
use Rattle.gdb_steps.specs.Points.{Points}
use Rattle.gdb_steps.specs.Walkers.{begin_of}
use Rattle.look_gdb.specs.declared.start.Settings.{Settings}

-- the run, what it is to stop at, how many steps a walk has at most, how many machines are kept at the most beside the
-- first, whether lines of calls across come to the console, and whether the program's end was told there
pub record View : Type 0 where
  pub run : Run
  pub points : Points
  pub budget : ℕ
  pub most_kept : ℕ
  pub is_traced : Bool
  pub is_end_told : Bool

-- what gdb sees
abbrev pub scene_at : Run → Scene
scene_at r = scene_of r.here.machine.active r.here.machine.body.ram r.here.machine.body.top

-- before the first step, with nothing to stop at; a walk has a hundred million steps at most
pub record Starts (first : Machine) (input : List ℕ) (rack : Rack) (slots : ℕ) (settings : Settings) (v : View) : Type 0 where
  pub run : IsRun (begin_of first input slots) v.run
  pub machine : v.run.here.machine ≡ first
  pub devices : v.run.rack ≡ rack
  pub steps : v.run.steps ≡ 0
  pub furthest : v.run.furthest ≡ 0
  pub points : v.points ≡ record { breaks = []; watches = [] }
  pub budget : v.budget ≡ 100000000
  pub most_kept : v.most_kept ≡ settings.keep
  pub lines : v.is_traced ≡ settings.is_traced
  pub untold : v.is_end_told ≡ false
