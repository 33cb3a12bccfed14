-- What gdb is served with by the words of a run, and the status. No clause can name what a file of the system holds, and
-- none what the streams hold that were lent to a server: so it is said of some files, of some input, and of what the
-- streams told when the server ended, and it is `serve_files` that says it of given ones.
use Rattle.std.specs.Prelude.{◌≡◌, ◌⊎◌, ℕ, Bool, false, List, [], Option, Result, Ok}
use Rattle.job_words.specs.declared.job.BadWord.{BadWord}
use Rattle.job_words.specs.declared.job.Command.{Command}
use Rattle.job_words.specs.declared.job.Command.TheVariants.{Run}
use Rattle.job_words.specs.declared.job.Job.{Job}
use Rattle.mix_load.specs.declared.files.Files.{Files}
use Rattle.mix_load.specs.LoadClauses.{AreLoadable}
use Rattle.look_words.specs.Requests.{IsLost}
use Rattle.look_gdb.specs.declared.start.Settings.{Settings}
use Rattle.look_commands.specs.Gdb.{ServesFiles, Wire}
use Rattle.look_commands.specs.GdbClauses.{wire}

-- gdb was served with files and an input, over streams that told this before
pub record ServesOver (files : Files) (job : Job) (input : List ℕ) (settings : Settings) (before : Wire) (status : ℕ) : Type 0 where
  pub after : Wire
  pub serves : ServesFiles files job input settings before after status

-- the same of the files that a job names, and of an input that is empty where no file is named for it
pub record ServesNamed (job : Job) (has_input : Bool) (settings : Settings) (before : Wire) (status : ℕ) : Type 0 where
  pub files : Files
  pub input : List ℕ
  pub loadable : AreLoadable files job.main
  pub empty : has_input ≡ false → input ≡ []
  pub over : ServesOver files job input settings before status

-- the same, unless a file was lost, and nothing is put
abbrev pub ServesJob : Job → Bool → Settings → Option (List ℕ) → Option (List ℕ) → Option (List ℕ) → ℕ → Type 0
ServesJob job has_input settings left old new status =
    ServesNamed job has_input settings (wire left 0 old 0) status ⊎ (IsLost status × (new ≡ old))

-- the same of the job that mixedrun's words ask for; where they ask for no run they are refused, unless there was no
-- memory, and nothing is put
abbrev pub ServesRun : Result Command BadWord → Bool → Settings → Option (List ℕ) → Option (List ℕ) → Option (List ℕ) → ℕ → Type 0
ServesRun (Ok (Run job)) has_input settings left old new status = ServesJob job has_input settings left old new status
ServesRun words has_input settings left old new status = ((status ≡ 2) ⊎ (status ≡ 9)) × (new ≡ old)
