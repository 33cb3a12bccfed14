-- The command of words and the place of the first bad one, in both directions; that the order of settings says nothing; and
-- in which order files are fetched.
use Rattle.std.specs.Prelude.{ℕ, ◌≡◌, ◌<◌, ◌↔◌, List as ListOf, ◌∷◌, length, Ok, Err}
use Rattle.std.specs.List.Sorted.{IsPermutation}
use Rattle.std.specs.Option.{option_map}
use Rattle.job_words.specs.Asks.{word_at, Asks, IsFirstBad}
use Rattle.job_words.specs.Jobs.{keys_in_order}
use Rattle.job_words.specs.Words.{bad_at, command_of}
use Rattle.job_words.specs.declared.job.Command.{Command}
use Rattle.job_words.specs.declared.job.Command.TheVariants.{Run, List, Sample, Assemble, Continue, Debug}
use Rattle.job_words.specs.declared.job.Job.{Job}
use Rattle.job_words.specs.declared.job.TheConstants.Key.{ALL}

-- a command is read exactly where the words ask for it
abbrev pub CommandIsAsked : Type 0
CommandIsAsked = (words : ListOf (ListOf ℕ)) (command : Command) → (command_of words ≡ Ok command) ↔ Asks words command

-- and a place is refused exactly where the word there is the first bad one
abbrev pub RefusalIsFirst : Type 0
RefusalIsFirst = (words : ListOf (ListOf ℕ)) (place : ℕ) → (command_of words ≡ Err (bad_at place)) ↔ IsFirstBad words place

-- a job, and a command, with its files at other places
abbrev pub moved_job : (ℕ → ℕ) → Job → Job
moved_job to job = record job { flat = option_map to job.flat; rsrc = option_map to job.rsrc; pef = option_map to job.pef; save = option_map to job.save }

abbrev pub moved : (ℕ → ℕ) → Command → Command
moved to (Run job) = Run (moved_job to job)
moved to (List job address count) = List (moved_job to job) address count
moved to (Sample calls depth) = Sample calls depth
moved to (Assemble set text address) = Assemble set (to text) address
moved to (Continue image steps save) = Continue (to image) steps (option_map to save)
moved to (Debug job script) = Debug (moved_job to job) (to script)

-- each word of one line stands in the other where `to` says
abbrev pub Stands : (ℕ → ℕ) → ListOf (ListOf ℕ) → ListOf (ListOf ℕ) → Type 0
Stands to words others = (place : ℕ) → place < length words → word_at others (to place) ≡ word_at words place

-- settings in another order are the same command, but that its files stand where their words went
abbrev pub OrderIsFree : Type 0
OrderIsFree = (name : ListOf ℕ) (words others : ListOf (ListOf ℕ)) (command : Command) → IsPermutation words others → command_of (name ∷ words) ≡ Ok command
    → (to : ℕ → ℕ) × Stands to (name ∷ words) (name ∷ others) × (command_of (name ∷ others) ≡ Ok (moved to command))

-- all keys stand in the order in which files are fetched
abbrev pub KeysStandInOrder : Type 0
KeysStandInOrder = ALL ≡ keys_in_order
