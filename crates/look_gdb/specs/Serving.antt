-- What is done with gdb's streams for a machine, from the first byte to the last.
use Rattle.std.specs.Prelude.{◌≡◌, ℕ, List, Option, Result, Err}
use Rattle.mix_io.specs.Streams.{Output}
use Rattle.dev_rack.specs.Rack.{State as Rack}
use Rattle.mix_engine.specs.declared.machine.Machine.{Machine}
use Rattle.gdb_session.specs.Replies.{Rules, rules_of}
use Rattle.gdb_session.specs.Serving.{Serves, first_standing}
use Rattle.gdb_session.specs.declared.broken.Broken.{Broken}
use Rattle.gdb_session.specs.declared.broken.Broken.TheVariants.{NoMemory}
use Rattle.gdb_steps.specs.Walkers.{IsFresh}
use Rattle.look_gdb.specs.Commands.{Obeys}
use Rattle.look_gdb.specs.Views.{Starts, View, scene_at}
use Rattle.look_gdb.specs.declared.start.Settings.{Settings}
use Rattle.look_gdb.specs.Walks.{Inserts, Removes, Walks}

-- what gdb's requests do to a run
abbrev pub run_rules : Rules View
run_rules = rules_of (λ v. scene_at v.run) Walks Inserts Removes Obeys

-- gdb was served with the run of a machine and its devices from before the first step on, or there was no memory for that
pub data ServesMachine (first : Machine) (input : List ℕ) (rack : Rack) (slots : ℕ) (settings : Settings) (left left_after : Option (List ℕ)) (out out_after : Output) (result : Result (Unit {0}) Broken) : Type 0 where
  no_memory : result ≡ Err NoMemory → left_after ≡ left → out_after ≡ out → ServesMachine first input rack slots settings left left_after out out_after result
  served : (v : View) → Starts first input rack slots settings v → Serves run_rules (first_standing run_rules v) left left_after out out_after result
      → ServesMachine first input rack slots settings left left_after out out_after result

-- the same with so many devices, none of which was asked, or there was no memory for them
pub data ServesFresh (first : Machine) (input : List ℕ) (slots : ℕ) (settings : Settings) (left left_after : Option (List ℕ)) (out out_after : Output) (result : Result (Unit {0}) Broken) : Type 0 where
  no_devices : result ≡ Err NoMemory → left_after ≡ left → out_after ≡ out → ServesFresh first input slots settings left left_after out out_after result
  beside : (rack : Rack) → IsFresh slots rack → ServesMachine first input rack slots settings left left_after out out_after result
      → ServesFresh first input slots settings left left_after out out_after result
