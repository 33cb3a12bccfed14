-- With which program gdb is served, over which streams, and the status by how that ended.
use Rattle.std.specs.Prelude.{◌≡◌, ◌⊎◌, ◌*◌, ℕ, List, Option, Result, Ok, Err}
use Rattle.mix_io.specs.Streams.{Output}
use Rattle.job_words.specs.declared.job.Job.{Job}
use Rattle.switch_frame.specs.declared.program.Program.{Program}
use Rattle.mix_load.specs.declared.error.LoadError.{LoadError}
use Rattle.mix_load.specs.declared.files.Files.{Files}
use Rattle.mix_load.specs.Load.{load_of}
use Rattle.toolbox.specs.Effects.{Around}
use Rattle.mixed_machine.specs.Machine.{flat}
use Rattle.mix_engine.specs.Start.{start_of}
use Rattle.mix_engine.specs.declared.machine.Machine.{Machine}
use Rattle.gdb_session.specs.Hearing.{BlamesInput, BlamesOutput}
use Rattle.gdb_session.specs.declared.broken.Broken.{Broken}
use Rattle.gdb_session.specs.declared.broken.Broken.TheVariants as By
use Rattle.look_gdb.specs.Serving.{ServesFresh}
use Rattle.look_gdb.specs.declared.start.Settings.{Settings}

-- what gdb's streams tell: what the input has left, its count of faults, and the output
pub record Wire : Type 0 where
  pub left : Option (List ℕ)
  pub faults : ℕ
  pub out : Output

-- the status of a server by how it ended
abbrev pub status_of : Result (Unit {0}) Broken → ℕ
status_of (Ok done) = 0
status_of (Err By.NoMemory) = 9
status_of (Err By.Input) = 5
status_of (Err By.Output) = 6

-- gdb was served with a machine, the whole input of its program and two devices, from the first byte to the last
pub record ServesWith (machine : Machine) (input : List ℕ) (settings : Settings) (before after : Wire) (status : ℕ) : Type 0 where
  pub result : Result (Unit {0}) Broken
  pub serves : ServesFresh machine input 2 settings before.left after.left before.out after.out result
  pub from_input : BlamesInput before.faults after.faults result
  pub from_output : BlamesOutput before.out.faults after.out.faults result
  pub tells : status ≡ status_of result

-- a machine at the start of a program
abbrev pub StartsAt : Program → Machine → Type 0
StartsAt program machine = (around : Around) → flat machine.body machine.active around ≡ start_of program around

-- gdb was served with a program from its start on, or there was no memory for that
pub data ServesProgram (program : Program) (input : List ℕ) (settings : Settings) (before after : Wire) (status : ℕ) : Type 0 where
  no_memory : status ≡ 9 → after ≡ before → ServesProgram program input settings before after status
  served : (machine : Machine) → StartsAt program machine → ServesWith machine input settings before after status
      → ServesProgram program input settings before after status

-- the same of what came of loading it: where it was refused, its streams were left alone, also where there was no memory
-- for the sentence that says why
abbrev pub ServesLoaded : Result Program LoadError → List ℕ → Settings → Wire → Wire → ℕ → Type 0
ServesLoaded (Ok program) input settings before after status = ServesProgram program input settings before after status
ServesLoaded (Err error) input settings before after status = ((status ≡ 3) ⊎ (status ≡ 9)) × (after ≡ before)

-- the same of the program of files, as a job loads them
abbrev pub ServesFiles : Files → Job → List ℕ → Settings → Wire → Wire → ℕ → Type 0
ServesFiles files job input settings before after status =
    ServesLoaded (load_of files job.main (1024 * job.kib)) input settings before after status
