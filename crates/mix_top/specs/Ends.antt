-- The ways in which a call of the program ends, each with its cause. This is the whole promise of the public call:
-- whatever the words, the files, the input, the answers of the devices and the failures of the outside are, one of
-- these holds.
use Rattle.std.specs.Prelude.{◌≡◌, ℕ, List, ◌∷◌, ◌++◌, Option, Some, None, Ok, Err}
use Rattle.std.specs.Option.{option_map}
use Rattle.mix_io.specs.Streams.{Output}
use Rattle.switch_frame.specs.declared.program.Program.{Program}
use Rattle.mix_engine.specs.Start.{start_of}
use Rattle.mix_text.specs.Listing.{listing}
use Rattle.mix_load.specs.Load.{load_of}
use Rattle.mix_load.specs.declared.error.LoadError.{LoadError}
use Rattle.mix_load.specs.declared.files.Files.{Files}
use Rattle.mix_top.specs.Samples.{IsSample, sample_ram, sample_steps}
use Rattle.call_trace.specs.declared.end.End.{End}
use Rattle.call_trace.specs.declared.end.End.TheVariants.{Exit as ExitEnd, Fault as FaultEnd, Limit as LimitEnd}
use Rattle.mix_top.specs.declared.sampled.Sampled.{Sampled}
use Rattle.mix_top.specs.Scripts.{script_of}
use Rattle.mix_top.specs.declared.command.ScriptCommand.{ScriptCommand}
use Rattle.job_words.specs.Jobs.{limit_of, save_in, wants}
use Rattle.job_words.specs.Asks.{Asks, IsFirstBad, name_at}
use Rattle.job_words.specs.declared.job.Command.{Command}
use Rattle.job_words.specs.declared.job.Command.TheVariants.{Run, List as Lists, Sample, Assemble, Continue, Debug}
use Rattle.job_words.specs.declared.job.Job.{Job}
use Rattle.job_words.specs.declared.job.Key.{Key}
use Rattle.mix_top.specs.Lines.{Refusal, memory_line, words_line, fetch_line, load_line, long_file as long_refusal, load_refusal}
use Rattle.mix_top.specs.World.{Beside, Contents, World, Early, Accounted, HasExceeded, HasFailed, NoneRose, Listed, OnlyPuts, PutsText}
use Rattle.mix_top.specs.Running.{MachineRan}
use Rattle.mix_top.specs.SampleLine.{sample_line, exit_text, fault_text}
use Rattle.mix_top.specs.Files.{IsLong, IsNotLong, AreFetched, AreFiles, bytes_in, ram_size}
use Rattle.mix_top.specs.Assembling.{AssembleWay}
use Rattle.mix_top.specs.Continuing.{ContinueWay}
use Rattle.mix_top.specs.Debugging.{ScriptWay, script_refusal}
use Rattle.mix_top.specs.declared.ending.Ending.{Ending}
use Rattle.mix_top.specs.declared.files.Fetched.{Fetched}

-- the ways to end once a program was loaded
pub data ProgramWay (save : Option (List ℕ)) (program : Program) (steps : ℕ) (old new : Beside) (result : Ending) : Type 0 where
  -- there was no memory for the machine
  no_machine : Early old new memory_line 9 result → ProgramWay save program steps old new result
  -- it ran
  ran : MachineRan save (start_of program) steps old new result → ProgramWay save program steps old new result

-- the ways to end of a command that loads the program of a job, and then ends in one of its own
pub data LoadWay (job : Job) (files : Files) (Loaded : Program → Beside → Beside → Ending → Type 0) (old new : Beside) (result : Ending) : Type 0 where
  -- there was no memory for the program
  no_memory : Early old new memory_line 9 result → LoadWay job files Loaded old new result
  -- the first rule of the loader that is broken
  refused : (error : LoadError) (why : Refusal) → load_refusal error ≡ Some why → load_of files job.main (ram_size job) ≡ Err error
      → Early old new (load_line why) 3 result
      → LoadWay job files Loaded old new result
  -- the program was loaded
  loaded : (program : Program) → load_of files job.main (ram_size job) ≡ Ok program → Loaded program old new result
      → LoadWay job files Loaded old new result

-- the ways to end of a debugger's script, once it was fetched
pub data DebugWay (job : Job) (files : Files) (script : List ℕ) (old new : Beside) (result : Ending) : Type 0 where
  -- the first line that is no command; the program is not loaded
  line_refused : (number : ℕ) → script_of script ≡ Err number → Early old new (load_line (script_refusal number)) 3 result
      → DebugWay job files script old new result
  -- each line is a command
  lines_read : (commands : List ScriptCommand) → script_of script ≡ Ok commands → LoadWay job files (ScriptWay commands) old new result
      → DebugWay job files script old new result

-- the line of a sample, by how it ended; at the step limit nothing is written
abbrev pub PutsSample : ℕ → ℕ → Sampled → End → Output → Output → ℕ → Type 0
PutsSample calls depth sampled (ExitEnd code) old new result = PutsText old new (sample_line calls depth sampled (exit_text code)) 0 result
PutsSample calls depth sampled (FaultEnd set fault) old new result = PutsText old new (sample_line calls depth sampled (fault_text fault)) 10 result
PutsSample calls depth sampled LimitEnd old new result = (new ≡ old) × (result ≡ 11)

-- the sample image ran, with no input, no device and no answers, and its line was put
pub record SampleRan (calls depth : ℕ) (old new : Beside) (result : Ending) : Type 0 where
  pub sampled : Sampled
  pub is : IsSample sample_ram sample_steps calls depth sampled
  pub only : OnlyPuts old new result
  pub out : PutsSample calls depth sampled sampled.end old.outside.out new.outside.out result.status

-- the ways to end of a sample
pub data SampleWay (calls depth : ℕ) (old new : Beside) (result : Ending) : Type 0 where
  -- there was no memory for the program or the machine
  no_room : Early old new memory_line 9 result → SampleWay calls depth old new result
  -- it ran
  sample_ran : SampleRan calls depth old new result → SampleWay calls depth old new result

-- the ways to end of a run, and of a listing
abbrev pub RunsWay : Option (List ℕ) → Job → Files → Beside → Beside → Ending → Type 0
RunsWay save job files = LoadWay job files (λ program. ProgramWay save program job.steps)

abbrev pub ListsWay : Job → ℕ → ℕ → Files → Beside → Beside → Ending → Type 0
ListsWay job address count files = LoadWay job files (λ program. Listed (listing count job.main program.ram address))

-- the name under which a command keeps what it runs, at the step limit
abbrev pub saved_by : List (List ℕ) → Command → Option (List ℕ)
saved_by words command = option_map (name_at words) (save_in command)

-- it is the name of the command that words ask for; words that ask for none keep nothing
pub record IsSaved (words : List (List ℕ)) (save : Option (List ℕ)) : Type 0 where
  pub asked : (command : Command) → Asks words command → save ≡ saved_by words command
  pub bad : (place : ℕ) → IsFirstBad words place → save ≡ None

-- the ways to end once the files of a command were fetched
abbrev pub FilesWay : Option (List ℕ) → Command → Fetched → Beside → Beside → Ending → Type 0
FilesWay save (Run job) files = RunsWay save job files.program
FilesWay save (Lists job address count) files = ListsWay job address count files.program
FilesWay save (Sample calls depth) files = SampleWay calls depth
FilesWay save (Assemble set text address) files = AssembleWay set address (bytes_in files.text)
FilesWay save (Continue image steps to) files = ContinueWay save steps (bytes_in files.image)
FilesWay save (Debug job script) files = DebugWay job files.program (bytes_in files.script)

-- the file of a key, which the word at a place names, is the next to be fetched, after others that were
pub record IsNext (words : List (List ℕ)) (contents : Contents) (command : Command) (key : Key) (place : ℕ) : Type 0 where
  pub before : List (Key × ℕ)
  pub after : List (Key × ℕ)
  pub order : wants command ≡ before ++ ((key, place) ∷ after)
  pub fetched : AreFetched words contents before

-- the ways to end
pub data Way (words : List (List ℕ)) (old new : World) (result : Ending) : Type 0 where
  -- the words ask for no command, and this is the place of the first bad one
  bad_words : (place : ℕ) → IsFirstBad words place
      → NoneRose old.shelf.counts new.shelf.counts → Early old.beside new.beside (words_line place) 2 result
      → Way words old new result
  -- the shelf failed at the file of a key
  no_file : (command : Command) (key : Key) (place : ℕ) → Asks words command → IsNext words old.shelf.contents command key place
      → HasFailed old.shelf.counts new.shelf.counts (name_at words place) → Early old.beside new.beside (fetch_line key) 4 result
      → Way words old new result
  -- the file of a key is above its limit, where the shelf tells it; and the shelf counts that it is
  long_file : (command : Command) (key : Key) (place : ℕ) → Asks words command → IsNext words old.shelf.contents command key place
      → IsLong old.shelf.contents (limit_of key) (name_at words place)
      → HasExceeded old.shelf.counts new.shelf.counts (name_at words place) → Early old.beside new.beside (load_line (long_refusal key)) 3 result
      → Way words old new result
  -- there was no memory for the file of a key, which is not above its limit
  no_memory_for_file : (command : Command) (key : Key) (place : ℕ) → Asks words command → IsNext words old.shelf.contents command key place
      → IsNotLong old.shelf.contents (limit_of key) (name_at words place)
      → NoneRose old.shelf.counts new.shelf.counts → Early old.beside new.beside memory_line 9 result
      → Way words old new result
  -- the files that the command wants were fetched; a sample wants none
  fetched : (command : Command) (files : Fetched) → Asks words command → AreFiles words old.shelf.contents command files
      → NoneRose old.shelf.counts new.shelf.counts → FilesWay (saved_by words command) command files old.beside new.beside result
      → Way words old new result

-- a call of the program: it leaves the shelf's files as they are, accounts for each failure and each device, and ended
-- in one of the ways, with this status and after so many steps of a run
pub record EndsWith (words : List (List ℕ)) (old new : World) (result : Ending) : Type 0 where
  pub contents : new.shelf.contents ≡ old.shelf.contents
  pub save : Option (List ℕ)
  pub saved : IsSaved words save
  pub accounted : Accounted save old.beside new.beside result.status
  pub way : Way words old new result

-- something ended with this status, after some number of steps
pub record WithStatus (Ended : Ending → Type 0) (status : ℕ) : Type 0 where
  pub ending : Ending
  pub told : ending.status ≡ status
  pub ended : Ended ending

abbrev pub Ends : List (List ℕ) → World → World → ℕ → Type 0
Ends words old new = WithStatus (EndsWith words old new)
