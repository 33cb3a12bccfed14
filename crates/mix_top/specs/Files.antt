-- The files that a command wants, as a shelf tells them.
use Rattle.std.specs.Prelude.{◌≡◌, ℕ, ◌*◌, ◌<◌, ◌≤◌, List, [], ◌∷◌, length, Option, Some, None, IsSomeAnd, IfSome, unwrap_or}
use Rattle.std.specs.Option.{option_map}
use Rattle.mix_bits.specs.declared.file.File.TheVariants.{Flat, Rsrc, Pef}
use Rattle.job_words.specs.Jobs.{limit_of, place_in}
use Rattle.job_words.specs.Asks.{name_at}
use Rattle.job_words.specs.declared.job.Command.{Command}
use Rattle.job_words.specs.declared.job.Job.{Job}
use Rattle.job_words.specs.declared.job.Key.{Key}
use Rattle.job_words.specs.declared.job.Key.TheVariants.{Program, Image, Text, Script}
use Rattle.mix_top.specs.World.{Contents}
use Rattle.mix_top.specs.declared.files.Fetched.{Fetched}

-- a file of that name was fetched, of at most so many bytes: the one that the shelf tells, where it tells
abbrev pub IsFile : Contents → ℕ → List ℕ → List ℕ → Type 0
IsFile None limit name file = length file ≤ limit
IsFile (Some held) limit name file = (held name ≡ Some file) × (length file ≤ limit)

-- the file of that name is above the limit, where the shelf tells
abbrev pub IsLong : Contents → ℕ → List ℕ → Type 0
IsLong None limit name = Unit {0}
IsLong (Some held) limit name = IsSomeAnd (held name) (λ file. limit < length file)

-- it is not, where the shelf tells
abbrev pub IsNotLong : Contents → ℕ → List ℕ → Type 0
IsNotLong None limit name = Unit {0}
IsNotLong (Some held) limit name = IfSome (held name) (λ file. length file ≤ limit)

-- files of these keys, named by the words at these places, were fetched
abbrev pub AreFetched : List (List ℕ) → Contents → List (Key × ℕ) → Type 0
AreFetched words contents [] = Unit {0}
AreFetched words contents (want ∷ wants) = ((file : List ℕ) × IsFile contents (limit_of want.0) (name_at words want.1) file) × AreFetched words contents wants

-- a file is there exactly where a word names it
abbrev pub IsNamed : Contents → ℕ → Option (List ℕ) → Option (List ℕ) → Type 0
IsNamed contents limit None None = Unit {0}
IsNamed contents limit None (Some file) = ⊥
IsNamed contents limit (Some name) None = ⊥
IsNamed contents limit (Some name) (Some file) = IsFile contents limit name file

abbrev pub IsOf : List (List ℕ) → Contents → Command → Key → Option (List ℕ) → Type 0
IsOf words contents command key file = IsNamed contents (limit_of key) (option_map (name_at words) (place_in command key)) file

-- the files of a command, by their keys
abbrev pub file_in : Fetched → Key → Option (List ℕ)
file_in files (Program Flat) = files.program.flat
file_in files (Program Rsrc) = files.program.rsrc
file_in files (Program Pef) = files.program.pef
file_in files Image = files.image
file_in files Text = files.text
file_in files Script = files.script

abbrev pub AreFiles : List (List ℕ) → Contents → Command → Fetched → Type 0
AreFiles words contents command files = (key : Key) → IsOf words contents command key (file_in files key)

-- the bytes of a file, none where there is no file
abbrev pub bytes_in : Option (List ℕ) → List ℕ
bytes_in file = unwrap_or file []

-- the bytes of RAM of a job
abbrev pub ram_size : Job → ℕ
ram_size job = 1024 * job.kib
