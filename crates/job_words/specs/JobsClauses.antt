-- What a command is for its words: each file the word of its key, each number in its range.
use Rattle.std.specs.Prelude.{ℕ, ◌≡◌, ◌<◌, ◌≤◌, List as ListOf, [], length, slice_index_or, IsTrue, Option, Some, None, IfSome, IfNone, IsSome}
use Rattle.job_words.specs.Settings.{key_in, has_equals, text_of}
use Rattle.job_words.specs.declared.job.Job.{Job}
use Rattle.job_words.specs.declared.job.Key.{Key}
use Rattle.job_words.specs.declared.job.Command.{Command}
use Rattle.job_words.specs.declared.job.Command.TheVariants.{Run, List, Sample, Assemble, Continue, Debug}
use Rattle.job_words.specs.declared.setting.Name.{Name}
use Rattle.job_words.specs.declared.setting.Name.TheVariants.{File, Save}
use Rattle.job_words.specs.Jobs.{main_file, place_in, save_in}

-- the program that a command loads
abbrev pub job_in : Command → Option Job
job_in (Run job) = Some job
job_in (List job address count) = Some job
job_in (Sample calls depth) = None
job_in (Assemble set text address) = None
job_in (Continue image steps save) = None
job_in (Debug job script) = Some job

-- a word begins with a key and an equals sign
pub record IsKeyed (word : ListOf ℕ) (name : Name) : Type 0 where
  pub equals : IsTrue (has_equals word)
  pub named : key_in word ≡ text_of name

-- the word at a place has a key
pub record HasKey (words : ListOf (ListOf ℕ)) (name : Name) (place : ℕ) : Type 0 where
  pub inside : place < length words
  pub keyed : IsKeyed (slice_index_or words place []) name

-- each place of a command is that of a word with the file's key
abbrev pub NamesFiles : ListOf (ListOf ℕ) → Command → Type 0
NamesFiles words command = (key : Key) → IfSome (place_in command key) (HasKey words (File key))

abbrev pub NamesSave : ListOf (ListOf ℕ) → Command → Type 0
NamesSave words command = IfSome (save_in command) (HasKey words Save)

-- a flat file stands alone, without one the main program's own file is there, and RAM has a size that there is
pub record IsProperJob (job : Job) : Type 0 where
  pub alone : IfSome job.flat (λ place. (job.rsrc ≡ None) × (job.pef ≡ None))
  pub own : IfNone job.flat (IsSome (main_file job.main job.rsrc job.pef))
  pub ram : (128 ≤ job.kib) × (job.kib ≤ 16384)

-- the numbers that a listing and a sample can have
abbrev pub IsCounted : Command → Type 0
IsCounted (Run job) = Unit {0}
IsCounted (List job address count) = (1 ≤ count) × (count ≤ 4096)
IsCounted (Sample calls depth) = ((1 ≤ calls) × (calls ≤ 1000)) × ((1 ≤ depth) × (depth ≤ 300))
IsCounted (Assemble set text address) = Unit {0}
IsCounted (Continue image steps save) = Unit {0}
IsCounted (Debug job script) = Unit {0}

pub record IsProper (words : ListOf (ListOf ℕ)) (command : Command) : Type 0 where
  pub files : NamesFiles words command
  pub save : NamesSave words command
  pub job : IfSome (job_in command) IsProperJob
  pub counts : IsCounted command
