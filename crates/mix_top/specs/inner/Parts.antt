-- What the parts of the public call answer.
use Rattle.std.specs.Prelude.{◌≡◌, ℕ, ◌≤◌, List, [], ◌∷◌, ◌++◌, length, Option, Some, None, Result, Ok, Err, IfSome}
use Rattle.mix_bits.specs.declared.file.TheConstants.{IMAGE_BYTES, MOST_BYTES}
use Rattle.mix_bits.specs.declared.isa.Isa.{Isa}
use Rattle.mix_bits.specs.declared.file.File.TheVariants.{Flat, Rsrc, Pef}
use Rattle.mix_io.specs.Streams.{Output}
use Rattle.mix_io.specs.declared.errors.Failed.{Failed as Failure}
use Rattle.mix_io.specs.declared.errors.FetchError.{FetchError}
use Rattle.mix_io.specs.declared.errors.FetchError.TheVariants.{NoMemory as NoRoom, Failed, TooLong}
use Rattle.dev_rack.specs.Rack.{State}
use Rattle.mixed_machine.specs.Exec.How.{Limited, Exited, Faulted}
use Rattle.mixed_machine.specs.declared.stop.Stop.{Stop}
use Rattle.mixed_machine.specs.declared.stop.Stop.TheVariants.{Exit, Fault, Limit, ReadFault, OutFault, TraceFault}
use Rattle.mix_engine.specs.Beside.{outside_lent, trace_lent}
use Rattle.mix_engine.specs.declared.outside.Outside.{Outside}
use Rattle.call_trace.specs.Lines.{end_line}
use Rattle.job_words.specs.JobsClauses.{job_in}
use Rattle.job_words.specs.Jobs.{limit_of, place_in, wanted_among}
use Rattle.job_words.specs.Asks.{name_at}
use Rattle.job_words.specs.declared.job.Command.{Command}
use Rattle.job_words.specs.declared.job.Key.{Key}
use Rattle.job_words.specs.declared.job.Key.TheVariants.{Program, Image, Text, Script}
use Rattle.mix_load.specs.LoadClauses.{AreLoadable}
use Rattle.mix_load.specs.declared.files.Files.{Files}
use Rattle.mix_engine.specs.declared.machine.Machine.{Machine}
use Rattle.mix_image.specs.Spelling.{HasSpelling, spell}
use Rattle.mix_top.specs.Lines.{memory_line, fetch_line, load_line, long_file}
use Rattle.mix_top.specs.World.{Beside, Contents, Closes, HasExceeded, HasFailed, NoneRose, Keep, ShelfCounts, beside}
use Rattle.mix_top.specs.Files.{AreFetched, IsLong, IsNotLong, IsOf, bytes_in}
use Rattle.mix_top.specs.Keeping.{KeepsAll, KeepsPart}
use Rattle.mixed_machine.specs.Endings.{end_of}
use Rattle.mix_top.specs.Running.{status_of}
use Rattle.mix_top.specs.declared.files.Fetched.{Fetched}
use Rattle.mix_top.specs.declared.files.Missing.{Missing}

-- why a file was not fetched
abbrev pub IsCause : Contents → ℕ → List ℕ → ShelfCounts → ShelfCounts → FetchError → Type 0
IsCause contents limit name old new NoRoom = IsNotLong contents limit name × NoneRose old new
IsCause contents limit name old new Failed = HasFailed old new name
IsCause contents limit name old new (TooLong most) = IsLong contents limit name × HasExceeded old new name

-- the file that the word for a key names was not fetched
pub record Misses (words : List (List ℕ)) (contents : Contents) (command : Command) (key : Key) (old new : ShelfCounts) (missing : Missing) : Type 0 where
  pub same : missing.key ≡ key
  pub named : place_in command key ≡ Some missing.place
  pub cause : IsCause contents (limit_of key) (name_at words missing.place) old new missing.error

-- the first of a command's files for some keys that was not fetched
pub record MissesFirst (words : List (List ℕ)) (contents : Contents) (command : Command) (keys : List Key) (old new : ShelfCounts) (missing : Missing) : Type 0 where
  pub before : List (Key × ℕ)
  pub after : List (Key × ℕ)
  pub order : wanted_among keys command ≡ before ++ ((missing.key, missing.place) ∷ after)
  pub fetched : AreFetched words contents before
  pub cause : IsCause contents (limit_of missing.key) (name_at words missing.place) old new missing.error

-- the files with that of one key more, and with those of some keys
abbrev pub with_file : Fetched → Key → Option (List ℕ) → Fetched
with_file files (Program Flat) file = record files { program = record files.program { flat = file } }
with_file files (Program Rsrc) file = record files { program = record files.program { rsrc = file } }
with_file files (Program Pef) file = record files { program = record files.program { pef = file } }
with_file files Image file = record files { image = file }
with_file files Text file = record files { text = file }
with_file files Script file = record files { script = file }

pub record AddsOne (words : List (List ℕ)) (contents : Contents) (command : Command) (key : Key) (old : Fetched) (Rest : Fetched → Type 0) : Type 0 where
  pub file : Option (List ℕ)
  pub is : IsOf words contents command key file
  pub rest : Rest (with_file old key file)

abbrev pub Adds : List (List ℕ) → Contents → Command → List Key → Fetched → Fetched → Type 0
Adds words contents command [] old new = new ≡ old
Adds words contents command (key ∷ keys) old new = AddsOne words contents command key old (λ files. Adds words contents command keys files new)

-- files from which the program of a command, if any, can be loaded
abbrev pub AreFor : Command → Files → Type 0
AreFor command files = IfSome (job_in command) (λ job. AreLoadable files job.main)

-- files that are no longer than their limits
pub record AreShort (files : Fetched) : Type 0 where
  pub image : length (bytes_in files.image) ≤ IMAGE_BYTES
  pub text : length (bytes_in files.text) ≤ MOST_BYTES
  pub script : length (bytes_in files.script) ≤ MOST_BYTES

-- the line and the status for a file that was not fetched
abbrev pub unfetched_line : Key → FetchError → List ℕ
unfetched_line key NoRoom = memory_line
unfetched_line key Failed = fetch_line key
unfetched_line key (TooLong limit) = load_line (long_file key)

abbrev pub unfetched_status : FetchError → ℕ
unfetched_status NoRoom = 9
unfetched_status Failed = 4
unfetched_status (TooLong limit) = 3

-- what the objects that are lent tell
abbrev pub beside_lent : {I O T D : Type 0} → (I → Option (List ℕ)) → (I → ℕ) → (O → Option (List ℕ)) → (O → ℕ) → (T → Option (List ℕ)) → (T → ℕ) → (D → State)
    → Outside I O T D → Keep → Beside
beside_lent left read_faults held put_faults traced trace_faults state lent keep =
    beside (outside_lent left read_faults held put_faults state lent) (trace_lent traced trace_faults lent) keep

-- how a run that stopped while a set was active ends the call: with its line and status, or, where the outside
-- stopped it, with none
abbrev pub Finishes : Stop → Isa → Output → Output → ℕ → Type 0
Finishes (Exit code) set old new result = Closes old new [] (end_line (end_of set (Exited code))) (status_of (Exited code)) result
Finishes (Fault fault) set old new result = Closes old new [] (end_line (end_of set (Faulted fault))) (status_of (Faulted fault)) result
Finishes Limit set old new result = Closes old new [] (end_line (end_of set Limited)) (status_of Limited) result
Finishes ReadFault set old new result = (new ≡ old) × (result ≡ 5)
Finishes OutFault set old new result = (new ≡ old) × (result ≡ 6)
Finishes TraceFault set old new result = (new ≡ old) × (result ≡ 7)

-- a machine was kept under a name, if there is one; or the keeper failed
abbrev pub Keeps : Option (List ℕ) → Machine → Keep → Keep → Result (Unit {0}) Failure → Type 0
Keeps None m old new (Ok done) = new ≡ old
Keeps None m old new (Err failed) = ⊥
Keeps (Some name) m old new (Ok done) = HasSpelling m × KeepsAll name (spell m) old new
Keeps (Some name) m old new (Err failed) = HasSpelling m × KeepsPart name (spell m) old new

-- the name under which a machine that stopped is to be kept
abbrev pub due_at : Option (List ℕ) → Stop → Option (List ℕ)
due_at save Limit = save
due_at save stop = None
