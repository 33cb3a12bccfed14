-- What the output holds behind a command, and its status, by the words. Where a command is not said here, its output is
-- what the runs, images and traces write. No clause can name what a file of the system holds: so `fork`, `map`, `why` and
-- `gdb` are said here of some bytes and of some files, and it is `write_fork`, `write_map`, `serve_files`, and
-- `explain_script` and `explain_text` of look_why that say them of given ones.
use Rattle.std.specs.Prelude.{◌≡◌, ◌≢◌, ◌*◌, ◌++◌, ◌⊎◌, ℕ, Bool, true, false, List, [], ◌∷◌, codes, Option, is_some, Result, Ok, Err}
use Rattle.std.specs.Io.KnownBytes.{Appends}
use Rattle.wrapped_forks.specs.declared.fork.Fork.TheVariants.{Data as data_fork, Resource as resource_fork}
use Rattle.look_commands.specs.Puts.{LacksMemory, Prints, PutsFront, Writes}
use Rattle.look_commands.specs.Forks.{WritesFork}
use Rattle.look_commands.specs.Served.{ServesRun}
use Rattle.look_commands.specs.Whys.{WritesScriptWhy, WritesTextWhy}
use Rattle.job_words.specs.declared.job.BadWord.{BadWord}
use Rattle.job_words.specs.declared.job.Command.{Command}
use Rattle.job_words.specs.declared.job.Command.TheVariants.{Run}
use Rattle.job_words.specs.declared.job.Job.{Job}
use Rattle.job_words.specs.Words.{command_of}
use Rattle.switch_frame.specs.declared.program.Program.{Program}
use Rattle.mix_load.specs.declared.error.LoadError.{LoadError}
use Rattle.mix_load.specs.declared.files.Files.{Files}
use Rattle.mix_load.specs.Load.{load_of}
use Rattle.mix_load.specs.Segments.{id_count}
use Rattle.look_text.specs.Maps.{files_text, start_text}
use Rattle.look_text.specs.Info.{info_of}
use Rattle.look_text.specs.Whys.{Explains}
use Rattle.look_text.specs.declared.why.Why.{Why}
use Rattle.look_words.specs.Looks.{look_of, run_words}
use Rattle.look_words.specs.Requests.{IsLost, is_run}
use Rattle.look_words.specs.Sentences.{why_text}
use Rattle.look_words.specs.declared.look.Look.{Look}
use Rattle.look_words.specs.declared.look.Look.TheVariants.{Info, Trace, Picture, Fork, Data, Map, Scan, End, Image, Gdb, Words, WhyScript, WhyText}
use Rattle.look_words.specs.declared.look.Refusal.{Refusal}

-- the words behind the first one
abbrev pub behind : List (List ℕ) → List (List ℕ)
behind [] = []
behind (word ∷ words) = words

-- the same of a sentence on words, and a line feed, for a reason that holds
abbrev pub WritesWhy : List (List ℕ) → Option (List ℕ) → Option (List ℕ) → ℕ → Type 0
WritesWhy words old new status =
    ((why : Why) × Explains words why × Prints (why_text words why ++ codes "\n") old new status) ⊎ LacksMemory old new status

-- what could be read of files that are refused is put, also where there was no memory for the sentence that says why, or
-- a front of it where the output failed
abbrev pub PutsPieces : List ℕ → Option (List ℕ) → Option (List ℕ) → ℕ → Type 0
PutsPieces pieces old new status =
    (((status ≡ 3) ⊎ (status ≡ 9)) × Appends old new pieces) ⊎ ((status ≡ 6) × PutsFront pieces old new)

-- the pieces of files are put, and behind them the start of the program that they make, if they make one
abbrev pub PutsMap : List ℕ → Result Program LoadError → Option (List ℕ) → Option (List ℕ) → ℕ → Type 0
PutsMap pieces (Ok p) old new status = Writes (pieces ++ start_text p) old new status
PutsMap pieces (Err error) old new status = PutsPieces pieces old new status ⊎ LacksMemory old new status

-- the same of the files of a job
abbrev pub PutsMapOf : Files → Job → Option (List ℕ) → Option (List ℕ) → ℕ → Type 0
PutsMapOf files job old new status =
    PutsMap (files_text id_count (1024 * job.kib) files) (load_of files job.main (1024 * job.kib)) old new status

-- the same of the files that a job names, whatever they hold, unless one was lost, and nothing is put
abbrev pub MapsJob : Job → Option (List ℕ) → Option (List ℕ) → ℕ → Type 0
MapsJob job old new status = ((files : Files) × PutsMapOf files job old new status) ⊎ (IsLost status × (new ≡ old))

-- the same of the job that mixedrun's words ask for; where they ask for no run they are refused, unless there was no
-- memory, and nothing is put
abbrev pub WritesMap : Result Command BadWord → Option (List ℕ) → Option (List ℕ) → ℕ → Type 0
WritesMap (Ok (Run job)) old new status = MapsJob job old new status
WritesMap words old new status = ((status ≡ 2) ⊎ (status ≡ 9)) × (new ≡ old)

-- words that ask mixedrun for no run are refused, and nothing is put, unless there was no memory; others are not refused
abbrev pub Loads : Bool → Option (List ℕ) → Option (List ℕ) → ℕ → Type 0
Loads true old new status = status ≢ 2
Loads false old new status = ((status ≡ 2) ⊎ (status ≡ 9)) × (new ≡ old)

-- `left` is what the input has left at first
abbrev pub Tells : List (List ℕ) → Result Look Refusal → Option (List ℕ) → Option (List ℕ) → Option (List ℕ) → ℕ → Type 0
Tells words (Err refusal) left old new status = (status ≡ 2) × (new ≡ old)
Tells words (Ok (Info word)) left old new status = Writes (info_of word) old new status
Tells words (Ok Words) left old new status = WritesWhy (behind words) old new status
Tells words (Ok (WhyScript file)) left old new status = WritesScriptWhy old new status
Tells words (Ok (WhyText set file at)) left old new status = WritesTextWhy set at old new status
Tells words (Ok (Fork file)) left old new status = WritesFork resource_fork old new status
Tells words (Ok (Data file)) left old new status = WritesFork data_fork old new status
Tells words (Ok Map) left old new status = WritesMap (command_of (run_words words)) old new status
Tells words (Ok Scan) left old new status = Loads (is_run (command_of (run_words words))) old new status
Tells words (Ok (End last frames)) left old new status = Loads (is_run (command_of (run_words words))) old new status
Tells words (Ok (Gdb server)) left old new status =
    ServesRun (command_of (run_words words)) (is_some server.input) (record { is_traced = server.is_traced; keep = server.keep }) left old new status
Tells words (Ok (Trace file names)) left old new status = status ≢ 2
Tells words (Ok (Picture file names)) left old new status = status ≢ 2
Tells words (Ok (Image file span frames)) left old new status = status ≢ 2

-- the status 2 stands exactly for words that are refused, but for want of memory
abbrev pub Answers : List (List ℕ) → Option (List ℕ) → Option (List ℕ) → Option (List ℕ) → ℕ → Type 0
Answers words left old new status = Tells words (look_of words) left old new status
