-- When words are a command, and which one: by what they set, wherever they stand.
use Rattle.std.specs.Prelude.{ℕ, ◌≡◌, ◌≢◌, ◌+◌, ◌<◌, ◌≤◌, ◌⊎◌, ◌↔◌, List as ListOf, [], length, take, slice_index_or, Option, Some, IfNone, IsSome}
use Rattle.mix_bits.specs.declared.isa.Isa.{Isa}
use Rattle.mix_bits.specs.declared.file.File.TheVariants.{Flat, Rsrc, Pef}
use Rattle.job_words.specs.Settings.{verb_of, setting_of, key_in, setting, value_in}
use Rattle.job_words.specs.SettingsClauses.{named, file, numbered}
use Rattle.job_words.specs.Jobs.{main_file, usual_set}
use Rattle.job_words.specs.declared.job.Command.{Command}
use Rattle.job_words.specs.declared.job.Command.TheVariants.{Run, List, Sample, Assemble, Continue, Debug}
use Rattle.job_words.specs.declared.job.Job.{Job}
use Rattle.job_words.specs.declared.job.Key.TheVariants.{Program, Image, Text, Script}
use Rattle.job_words.specs.declared.setting.Setting.{Setting}
use Rattle.job_words.specs.declared.setting.Name.TheVariants.{Main, Ram, Steps, At, Count, Calls, Depth, CodeSet, Save}
use Rattle.job_words.specs.declared.setting.Value.TheVariants.{Set}
use Rattle.job_words.specs.declared.setting.Verb.{Verb}
use Rattle.job_words.specs.declared.setting.Verb.TheVariants.{ToRun, ToList, ToSample, ToAssemble, ToContinue, ToDebug}

abbrev pub word_at : ListOf (ListOf ℕ) → ℕ → ListOf ℕ
word_at words place = slice_index_or words place []

-- what stands behind the first equals sign of the word at a place
abbrev pub name_at : ListOf (ListOf ℕ) → ℕ → ListOf ℕ
name_at words place = value_in (word_at words place)

-- the word at a place behind the command's name sets this
pub record Sets (verb : Verb) (words : ListOf (ListOf ℕ)) (place : ℕ) (setting : Setting) : Type 0 where
  pub behind : 0 < place
  pub inside : place < length words
  pub reads : setting_of verb (word_at words place) ≡ Some setting

-- some word does
abbrev pub IsSet : Verb → ListOf (ListOf ℕ) → Setting → Type 0
IsSet verb words setting = (place : ℕ) × Sets verb words place setting

-- the first word names the command, each other word sets something, no two have one key, and beside a flat file stands no
-- other of a program
pub record AreRead (verb : Verb) (words : ListOf (ListOf ℕ)) : Type 0 where
  pub named : verb_of (word_at words 0) ≡ Some verb
  pub each : (place : ℕ) → 0 < place → place < length words → IsSome (setting_of verb (word_at words place))
  pub once : (i j : ℕ) → 0 < i → i < j → j < length words → key_in (word_at words i) ≢ key_in (word_at words j)
  pub alone : IsSet verb words (file (Program Flat)) → (¬ IsSet verb words (file (Program Rsrc))) × (¬ IsSet verb words (file (Program Pef)))

-- a word sets the value, or none does and it is the default
abbrev pub IsSetOr : {A : Type 0} → Verb → ListOf (ListOf ℕ) → (A → Setting) → A → A → Type 0
IsSetOr {A} verb words sets default value = IsSet verb words (sets value) ⊎ (((x : A) → ¬ IsSet verb words (sets x)) × (value ≡ default))

-- the place that is kept, if any, is that of the word that sets this
abbrev pub IsWhere : Verb → ListOf (ListOf ℕ) → Setting → Option ℕ → Type 0
IsWhere verb words setting kept = (place : ℕ) → (kept ≡ Some place) ↔ Sets verb words place setting

-- the main set where no word names one
abbrev pub usual_main : Job → Isa
usual_main job = usual_set job.flat job.rsrc

-- the words ask for a job: its files stand where their words do, and the main program's is among them
pub record AsksJob (verb : Verb) (words : ListOf (ListOf ℕ)) (job : Job) : Type 0 where
  pub flat : IsWhere verb words (file (Program Flat)) job.flat
  pub rsrc : IsWhere verb words (file (Program Rsrc)) job.rsrc
  pub pef : IsWhere verb words (file (Program Pef)) job.pef
  pub main : IsSetOr verb words (λ set. setting Main (Set set)) (usual_main job) job.main
  pub kib : IsSetOr verb words (numbered Ram) 1024 job.kib
  pub steps : IsSetOr verb words (numbered Steps) 1000000 job.steps
  pub save : IsWhere verb words (named Save) job.save
  pub program : IfNone job.flat (IsSome (main_file job.main job.rsrc job.pef))

-- the words ask for a command
abbrev pub Asks : ListOf (ListOf ℕ) → Command → Type 0
Asks words (Run job) = AreRead ToRun words × AsksJob ToRun words job
Asks words (List job address count) = AreRead ToList words × AsksJob ToList words job × IsSet ToList words (numbered At address) × IsSet ToList words (numbered Count count)
Asks words (Sample calls depth) = AreRead ToSample words × IsSet ToSample words (numbered Calls calls) × IsSet ToSample words (numbered Depth depth)
Asks words (Assemble set text address) = AreRead ToAssemble words × IsSet ToAssemble words (setting CodeSet (Set set)) × Sets ToAssemble words text (file Text) × IsSet ToAssemble words (numbered At address)
Asks words (Continue image steps save) = AreRead ToContinue words × Sets ToContinue words image (file Image) × IsSetOr ToContinue words (numbered Steps) 1000000 steps × IsWhere ToContinue words (named Save) save
Asks words (Debug job script) = AreRead ToDebug words × AsksJob ToDebug words job × Sets ToDebug words script (file Script)

-- words that a command line can begin with, as far as they go
abbrev pub CanBegin : ListOf (ListOf ℕ) → Type 0
CanBegin words = (words ≡ []) ⊎ ((verb : Verb) × AreRead verb words)

-- a line can begin with the words before a place, and not with that one more; at the end, they ask for no command
pub record IsFirstBad (words : ListOf (ListOf ℕ)) (place : ℕ) : Type 0 where
  pub inside : place ≤ length words
  pub before : CanBegin (take place words)
  pub bad : place < length words → ¬ CanBegin (take (place + 1) words)
  pub missing : place ≡ length words → (command : Command) → ¬ Asks words command
