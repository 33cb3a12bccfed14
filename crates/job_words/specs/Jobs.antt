-- What each command wants, and what holds of each that is read.
use Rattle.std.specs.Prelude.{ℕ, List as ListOf, [], ◌∷◌, ◌++◌, Option, Some, None, is_some, ◌||◌, if◌then◌else◌}
use Rattle.mix_bits.specs.declared.isa.Isa.{Isa}
use Rattle.mix_bits.specs.declared.isa.Isa.TheVariants.{M68, Ppc}
use Rattle.mix_bits.specs.declared.file.File.TheVariants.{Flat, Rsrc, Pef}
use Rattle.mix_bits.specs.declared.file.TheConstants.{IMAGE_BYTES, MOST_BYTES}
use Rattle.job_words.specs.declared.job.Job.{Job}
use Rattle.job_words.specs.declared.job.Key.{Key}
use Rattle.job_words.specs.declared.job.Key.TheVariants.{Program, Image, Text, Script}
use Rattle.job_words.specs.declared.job.Command.{Command}
use Rattle.job_words.specs.declared.job.Command.TheVariants.{Run, List, Sample, Assemble, Continue, Debug}

-- the main set where no word names one: 68K where a flat file or a resource fork is given
abbrev pub usual_set : Option ℕ → Option ℕ → Isa
usual_set flat rsrc = if is_some flat || is_some rsrc then M68 else Ppc

-- the file that has the main program of a set where no file is flat
abbrev pub main_file : {A : Type 0} → Isa → A → A → A
main_file M68 rsrc pef = rsrc
main_file Ppc rsrc pef = pef

-- the place of the word that names a file of a program
abbrev pub place_of : Job → Key → Option ℕ
place_of job (Program Flat) = job.flat
place_of job (Program Rsrc) = job.rsrc
place_of job (Program Pef) = job.pef
place_of job key = None

-- the place of the word that names the file of a key, if the command wants that file
abbrev pub place_in : Command → Key → Option ℕ
place_in (Run job) key = place_of job key
place_in (List job address count) key = place_of job key
place_in (Sample calls depth) key = None
place_in (Assemble set text address) Text = Some text
place_in (Assemble set text address) key = None
place_in (Continue image steps save) Image = Some image
place_in (Continue image steps save) key = None
place_in (Debug job script) Script = Some script
place_in (Debug job script) key = place_of job key

-- the place of the word that names what is kept at the step limit
abbrev pub save_in : Command → Option ℕ
save_in (Run job) = job.save
save_in (Continue image steps save) = save
save_in command = None

-- all keys, in the order in which files are fetched, and how long the file of each is at most
abbrev pub keys_in_order : ListOf Key
keys_in_order = Program Flat ∷ (Program Rsrc ∷ (Program Pef ∷ (Image ∷ (Text ∷ (Script ∷ [])))))

abbrev pub limit_of : Key → ℕ
limit_of Image = IMAGE_BYTES
limit_of key = MOST_BYTES

-- the files that a command wants, in the order in which they are fetched, each with the place of its word
abbrev pub wanted_at : Option ℕ → Key → ListOf (Key × ℕ)
wanted_at None key = []
wanted_at (Some place) key = (key, place) ∷ []

abbrev pub wanted_among : ListOf Key → Command → ListOf (Key × ℕ)
wanted_among [] command = []
wanted_among (key ∷ keys) command = wanted_at (place_in command key) key ++ wanted_among keys command

abbrev pub wants : Command → ListOf (Key × ℕ)
wants command = wanted_among keys_in_order command
