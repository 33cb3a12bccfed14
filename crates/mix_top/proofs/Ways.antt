-- How the answers of the parts make up a way to end.
use Rattle.std.proofs.Common.{◌≡◌, ◌≢◌, ℕ, ◌-◌, ◌≤◌, inl, inr, List, [], ◌++◌, length, Option, Some, None, Result, Ok, Err, ◌⊎◌, arith, sym, ap, subst, ◌∙◌, refl, append-nil}
use Rattle.mix_bits.specs.declared.isa.Isa.{Isa}
use Rattle.mix_bits.specs.declared.isa.Isa.TheVariants.{M68, Ppc}
use Rattle.mix_bits.specs.declared.file.File.TheVariants.{Flat, Rsrc, Pef}
use Rattle.mix_io.specs.Streams.{Output, Grows, Breaks, StopsWithin}
use Rattle.mix_io.proofs.Streams.{grows-more, breaks-after}
use Rattle.mix_io.specs.declared.errors.FetchError.{FetchError}
use Rattle.mix_io.specs.declared.errors.FetchError.TheVariants.{NoMemory as NoRoom, Failed, TooLong}
use Rattle.switch_frame.specs.declared.program.Program.{Program}
use Rattle.switch_frame.specs.Records.{isa_of}
use Rattle.toolbox.specs.Effects.{Around}
use Rattle.call_trace.specs.Lines.{end_line}
use Rattle.mixed_machine.specs.State.{State}
use Rattle.mixed_machine.specs.Machine.{flat}
use Rattle.mixed_machine.specs.CountsClauses.{Blames}
use Rattle.mixed_machine.specs.Exec.{How, log, line_of, said_of}
use Rattle.mixed_machine.specs.Exec.How.{Limited, Exited, Faulted}
use Rattle.mixed_machine.specs.OutsideClauses.{At}
use Rattle.mixed_machine.specs.inner.Outside.{answers_between, state_of}
use Rattle.toolbox.specs.Calls.{around_at}
use Rattle.mixed_machine.specs.Runs.{Ran, SinksTook, Stops}
use Rattle.mix_engine.specs.Counted.{RunsTo}
use Rattle.toolbox.specs.declared.broken.Broken.TheVariants.{Input, Output as BrokenOutput, Trace}
use Rattle.mixed_machine.specs.declared.stop.Stop.{Stop}
use Rattle.mixed_machine.specs.declared.stop.Stop.TheVariants.{Exit, Fault, Limit, ReadFault, OutFault, TraceFault}
use Rattle.std.specs.Prelude.{IfNone, IfSome, IsSome, MatchResult}
use Rattle.job_words.specs.Jobs.{main_file}
use Rattle.job_words.specs.JobsClauses.{IsProperJob, job_in}
use Rattle.job_words.specs.Jobs.{keys_in_order, limit_of, place_in}
use Rattle.job_words.specs.Asks.{Asks, name_at}
use Rattle.job_words.specs.Words.{bad_at, command_of}
use Rattle.job_words.proofs.Requested.{command-asked, refusal-first}
use Rattle.job_words.specs.declared.job.Command.{Command}
use Rattle.job_words.specs.declared.job.Command.TheVariants.{Run, List as Lists, Sample, Assemble, Continue, Debug}
use Rattle.call_trace.specs.declared.end.End.{End}
use Rattle.call_trace.specs.declared.end.End.TheVariants.{Exit as ExitEnd, Fault as FaultEnd, Limit as LimitEnd}
use Rattle.mix_top.specs.declared.sampled.Sampled.{Sampled}
use Rattle.std.specs.Option.{option_map}
use Rattle.job_words.specs.declared.job.Job.{Job}
use Rattle.job_words.specs.declared.job.Key.{Key}
use Rattle.job_words.specs.declared.job.Key.TheVariants.{Program as OfProgram, Image, Text, Script}
use Rattle.mix_load.specs.LoadClauses.{AreLoadable, HasMain, IsAlone, IsSmall}
use Rattle.mix_load.specs.Load.{load_of}
use Rattle.mix_load.specs.OutcomeClauses.{Gives}
use Rattle.mix_load.specs.declared.files.Files.{Files}
use Rattle.mix_load.specs.declared.error.LoadError.{LoadError}
use Rattle.mix_load.specs.declared.error.LoadError.TheVariants.{NoMemory}
use Rattle.dev_rack.specs.Accounts.{Accounts}
use Rattle.mix_io.specs.declared.errors.Failed.{Failed as Failure}
use Rattle.mix_engine.specs.declared.machine.Machine.{Machine}
use Rattle.mix_image.specs.declared.error.ImageError.TheVariants.{NoMemory as NoImageMemory}
use Rattle.mix_image.specs.Fields.{fields_of}
use Rattle.mix_image.specs.Refusing.{IsWrong}
use Rattle.mix_image.specs.Restoring.{IsRestored, IsTested}
use Rattle.mix_image.specs.Spelling.{HasSpelling, spell}
use Rattle.mix_image.specs.declared.error.ImageError.{ImageError}
use Rattle.mix_top.specs.Lines.{Refusal, load_line, load_refusal, memory_line, words_line}
use Rattle.mix_top.specs.inner.Lines.{refused_line, refused_status}
use Rattle.mix_top.specs.World.{Beside, Keep, World, Accounted, Closes, Contents, Early, Listed, NoneRose, OnlyPuts, PutsText, beside}
use Rattle.mix_top.specs.inner.World.{EndsIn}
use Rattle.mix_engine.specs.inner.Does.{beside as sinks_beside}
use Rattle.mix_top.specs.Files.{AreFiles, IsNamed, bytes_in, ram_size}
use Rattle.mix_text.specs.Assembling.{IsAssembled}
use Rattle.mix_text.specs.AssemblingClauses.{OfBytes}
use Rattle.mix_text.specs.declared.refused.Refused.{Refused}
use Rattle.mix_top.specs.Assembling.{AssembleWay, line_refusal}
use Rattle.mix_top.specs.Assembling.AssembleWay.{assembled, line_refused}
use Rattle.mix_top.specs.declared.ending.Ending.{Ending}
use Rattle.mix_top.specs.declared.files.Fetched.{Fetched}
use Rattle.mix_top.specs.Keeping.{KeepsPart, KeptAt, Spells}
use Rattle.mix_top.specs.Running.{MachineRan, RunWay, sinks_at, status_of}
use Rattle.mix_top.specs.laws.Running.{answers_given}
use Rattle.mixed_machine.specs.Endings.{end_of}
use Rattle.mix_top.specs.Running.RunWay.{broke, ended, keep_failed}
use Rattle.mix_top.specs.Continuing.{ContinueWay, image_refusal}
use Rattle.mix_top.specs.Continuing.ContinueWay.{image_refused, no_memory as no_machine_memory}
use Rattle.mix_top.specs.Ends.{EndsWith, FilesWay, IsNext, IsSaved, LoadWay, PutsSample, Way, saved_by}
use Rattle.mix_top.specs.Ends.LoadWay.{no_memory, refused}
use Rattle.mix_top.specs.Ends.Way.{bad_words, fetched, long_file, no_file, no_memory_for_file}
use Rattle.mix_top.specs.inner.Parts.{AreFor, AreShort, Finishes, IsCause, Keeps, MissesFirst, due_at, unfetched_line, unfetched_status}
use Rattle.mix_top.specs.declared.files.Missing.{Missing}
use Rattle.mix_top.proofs.Counting.{IsPlain, accounted-early, accounted-puts, accounted-quiet, accounted-stop, accounted-unkept, counts_at, ends-quiet, keeps-calm}

-- a last line after the lines of a run
after-lines : (a b c : Output) (lines line : List ℕ) (status result : ℕ) → Grows a b lines → Closes b c [] line status result → Closes a c lines line status result
after-lines a b c lines line status result first (inl (grows, same)) = inl (grows-more a b c lines line first grows, same)
after-lines a b c lines line status result first (inr (breaks, same)) =
    inr (subst (λ xs. Breaks a c xs line) (append-nil lines) (breaks-after a b c lines [] line first breaks), same)

ended-way : (save : Option (List ℕ)) (steps : ℕ) (start last : State) (around : Around) (how : How) (set : Isa) (old mid new : Beside) (result : Ending)
    → last.around ≡ around → set ≡ isa_of last.active → new.outside ≡ mid.outside
    → result.steps ≤ steps → Ran 0 steps (steps - result.steps) start last how (sinks_at old) (sinks_at mid)
    → KeptAt save how last old.keep new.keep
    → Closes mid.trace new.trace [] (end_line (end_of set how)) (status_of how) result.status → RunWay save steps start around old new result
ended-way save steps start last around how set old mid new result around_is set_is same few ran kept closes =
    let all : steps - (steps - result.steps) ≡ result.steps = omega (arith, few) in
    let took : SinksTook result.steps start (sinks_at old) (sinks_at mid) = subst (λ k. SinksTook k start (sinks_at old) (sinks_at mid)) all ran.took in
    ended last how few ran.ends around_is
    (subst (λ o. Grows old.outside.out o.out (log said_of result.steps start)) (sym same) took.said) kept
    (after-lines old.trace mid.trace new.trace (log line_of result.steps start) (end_line (end_of (isa_of last.active) how)) (status_of how) result.status took.traced
    (subst (λ s. Closes mid.trace new.trace [] (end_line (end_of s how)) (status_of how) result.status) set_is closes))

-- what is kept of a machine that stands for the last state
kept-nothing : (save : Option (List ℕ)) (how : How) (last : State) (old new : Keep) → how ≢ Limited → new ≡ old → KeptAt save how last old new
kept-nothing None how last old new other same = same
kept-nothing (Some name) Limited last old new other same = absurd (other refl)
kept-nothing (Some name) (Exited code) last old new other same = same
kept-nothing (Some name) (Faulted fault) last old new other same = same

spells : (m : Machine) (last : State) → flat m.body m.active last.around ≡ last → HasSpelling m → Spells last (spell m)
spells m last stands is = record { machine = m; is = is; stands = stands; spelled = refl }

kept-machine : (save : Option (List ℕ)) (m : Machine) (last : State) (old new : Keep) (done : Unit {0}) → flat m.body m.active last.around ≡ last → Keeps save m old new (Ok done) → KeptAt save Limited last old new
kept-machine None m last old new done stands keeps = keeps
kept-machine (Some name) m last old new done stands keeps = (spell m, spells m last stands keeps.0, keeps.1)

-- a run that stopped, where nothing was put since
stops-same : (steps left : ℕ) (start last : State) (old mid new : Beside) (stop : Stop) → new.outside ≡ mid.outside → new.trace ≡ mid.trace
    → Stops 0 steps left start last (sinks_at old) (sinks_at mid) stop → Stops 0 steps left start last (sinks_at old) (sinks_at new) stop
stops-same steps left start last old mid new stop same traced stops =
    let sinks : sinks_at new ≡ sinks_at mid = ap (λ o. sinks_beside o.out new.trace) same ∙ ap (sinks_beside mid.outside.out) traced in
    subst (λ sinks. Stops 0 steps left start last (sinks_at old) sinks stop) (sym sinks) stops

-- a run that stopped, and what follows it
way-of_stop : (save : Option (List ℕ)) (m : Machine) (done : Unit {0}) (steps : ℕ) (start last : State) (around : Around) (set : Isa) (old mid new : Beside) (stop : Stop) (result : Ending)
    → last.around ≡ around → set ≡ isa_of last.active → new.outside ≡ mid.outside
    → result.steps ≤ steps → Stops 0 steps (steps - result.steps) start last (sinks_at old) (sinks_at mid) stop
    → flat m.body m.active last.around ≡ last → Keeps (due_at save stop) m old.keep new.keep (Ok done)
    → Finishes stop set mid.trace new.trace result.status → RunWay save steps start around old new result
way-of_stop save m done steps start last around set old mid new (Exit code) result around_is set_is same few stops stands keeps closes =
    ended-way save steps start last around (Exited code) set old mid new result around_is set_is same few stops (kept-nothing save (Exited code) last old.keep new.keep (λ is. cc) keeps) closes
way-of_stop save m done steps start last around set old mid new (Fault fault) result around_is set_is same few stops stands keeps closes =
    ended-way save steps start last around (Faulted fault) set old mid new result around_is set_is same few stops (kept-nothing save (Faulted fault) last old.keep new.keep (λ is. cc) keeps) closes
way-of_stop save m done steps start last around set old mid new Limit result around_is set_is same few stops stands keeps closes =
    ended-way save steps start last around Limited set old mid new result around_is set_is same few stops (kept-machine save m last old.keep new.keep done stands keeps) closes
way-of_stop save m done steps start last around set old mid new ReadFault result around_is set_is same few stops stands keeps closes =
    broke ReadFault Input last refl few (stops-same steps (steps - result.steps) start last old mid new ReadFault same closes.0 stops) around_is keeps closes.1
way-of_stop save m done steps start last around set old mid new OutFault result around_is set_is same few stops stands keeps closes =
    broke OutFault BrokenOutput last refl few (stops-same steps (steps - result.steps) start last old mid new OutFault same closes.0 stops) around_is keeps closes.1
way-of_stop save m done steps start last around set old mid new TraceFault result around_is set_is same few stops stands keeps closes =
    broke TraceFault Trace last refl few (stops-same steps (steps - result.steps) start last old mid new TraceFault same closes.0 stops) around_is keeps closes.1

-- a machine ran, what is to be kept was kept, and the call was closed
pub ran-of_run : (save : Option (List ℕ)) (steps : ℕ) (a b : At) (m : Machine) (keep : Keep) (new : Beside) (set : Isa) (stop : Stop) (result : Ending) (done : Unit {0}) → set ≡ isa_of b.active
    → m ≡ record { active = b.active; body = b.body } → new.outside ≡ b.outside → Keeps (due_at save stop) m keep new.keep (Ok done)
    → result.steps ≤ steps → RunsTo steps (steps - result.steps) a b stop → Finishes stop set b.trace new.trace result.status → MachineRan save (flat a.body a.active) steps (beside a.outside a.trace keep) new result
ran-of_run save steps a b m keep new set stop result done set_is m_is same keeps few runs closes =
    subst (λ o. MachineRan save (flat a.body a.active) steps (beside a.outside a.trace keep) (beside o new.trace new.keep) result) (sym same)
    (record {
      taken = runs.run.taken;
      told = runs.run.told;
      each = λ before after rest took.
          way-of_stop save m done steps (state_of a before (answers_between a b ++ rest)) (state_of b after rest) (around_at b.outside after rest) set
          (beside a.outside a.trace keep) (beside b.outside b.trace keep) (beside b.outside new.trace new.keep) stop result refl set_is refl few (runs.run.each before after rest took)
          (ap (λ n. flat n.body n.active (around_at b.outside after rest)) m_is) keeps closes;
    })

-- or the keeper failed
pub ran-unkept : (name : List ℕ) (steps : ℕ) (a b : At) (m : Machine) (keep : Keep) (new : Beside) (result : Ending) → m ≡ record { active = b.active; body = b.body } → new.outside ≡ b.outside → new.trace ≡ b.trace
    → HasSpelling m → KeepsPart name (spell m) keep new.keep → result.status ≡ 8 → result.steps ≤ steps → RunsTo steps (steps - result.steps) a b Limit
    → MachineRan (Some name) (flat a.body a.active) steps (beside a.outside a.trace keep) new result
ran-unkept name steps a b m keep new result m_is same traced is part eight few runs =
    subst (λ o. MachineRan (Some name) (flat a.body a.active) steps (beside a.outside a.trace keep) (beside o new.trace new.keep) result) (sym same)
    (subst (λ t. MachineRan (Some name) (flat a.body a.active) steps (beside a.outside a.trace keep) (beside b.outside t new.keep) result) (sym traced)
    (record {
      taken = runs.run.taken;
      told = runs.run.told;
      each = λ before after rest took.
          let ran = runs.run.each before after rest took in
          keep_failed name (spell m) (state_of b after rest) refl few ran refl
          (spells m (state_of b after rest) (ap (λ n. flat n.body n.active (around_at b.outside after rest)) m_is) is)
          part eight;
    }))

-- and from the same state for each outside it ran too
pub ran-from : (save : Option (List ℕ)) (start from : Around → State) (steps : ℕ) (old new : Beside) (result : Ending) → ((around : Around) → start around ≡ from around) → MachineRan save start steps old new result
    → MachineRan save from steps old new result
ran-from save start from steps old new result same ran =
    record {
      taken = ran.taken;
      told = ran.told;
      each = λ before after rest took.
          subst (λ s. RunWay save steps s (around_at new.outside after rest) old new result) (same (around_at old.outside before (answers_given old new ++ rest))) (ran.each before after rest took);
    }

-- a last line that a refusal gives, or else want of memory
pub closes-line : (why : Option Refusal) (line bytes : List ℕ) (old new : Output) (result : ℕ) → Some line ≡ option_map load_line why → bytes ≡ line
    → Closes old new [] bytes 3 result → Closes old new [] (refused_line why) (refused_status why) result
closes-line None line bytes old new result is same closes = cc
closes-line (Some why) line bytes old new result is same closes =
    let line_is : line ≡ load_line why = cc in subst (λ l. Closes old new [] l 3 result) (same ∙ line_is) closes

pub closes-memory : (why : Option Refusal) (old new : Output) (result : ℕ) → None ≡ option_map load_line why
    → Closes old new [] memory_line 9 result → Closes old new [] (refused_line why) (refused_status why) result
closes-memory None old new result is closes = closes
closes-memory (Some why) old new result is closes = cc

nine-plain : IsPlain 9
nine-plain = record { input = refl; out = refl; trace = refl; keep = refl }

refused-plain : (why : Option Refusal) → IsPlain (refused_status why)
refused-plain None = nine-plain
refused-plain (Some why) = record { input = refl; out = refl; trace = refl; keep = refl }

-- a call that ended before any step
pub early-by : (old new : Beside) (line : List ℕ) (status told : ℕ) (result : Ending) → result.status ≡ told → result.steps ≡ 0 → new.outside ≡ old.outside → new.keep ≡ old.keep
    → Closes old.trace new.trace [] line status told → Early old new line status result
early-by old new line status told result told_is none same kept closes =
    record { steps = none; outside = same; keep = kept; trace = subst (λ n. Closes old.trace new.trace [] line status n) (sym told_is) closes }

-- a program that was not loaded
no-want : (error : LoadError) (why : Refusal) → load_refusal error ≡ Some why → error ≢ NoMemory
no-want error why some is = let none : load_refusal error ≡ None = ap load_refusal is in cc

way-of_refusal : (job : Job) (files : Files) (Loaded : Program → Beside → Beside → Ending → Type 0) (old new : Beside) (error : LoadError) (why : Option Refusal) (result : Ending)
    → load_refusal error ≡ why → Gives (Err error) (load_of files job.main (ram_size job)) → Early old new (refused_line why) (refused_status why) result → LoadWay job files Loaded old new result
way-of_refusal job files Loaded old new error None result is gives early = no_memory early
way-of_refusal job files Loaded old new error (Some why) result is gives early = refused error why is (gives (no-want error why is)) early

pub ends-unloaded : (save : Option (List ℕ)) (job : Job) (files : Files) (Loaded : Program → Beside → Beside → Ending → Type 0) (old new : Beside) (error : LoadError) (told : ℕ) (result : Ending)
    → result.status ≡ told → result.steps ≡ 0 → new.outside ≡ old.outside → new.keep ≡ old.keep
    → Gives (Err error) (load_of files job.main (ram_size job)) → Closes old.trace new.trace [] (refused_line (load_refusal error)) (refused_status (load_refusal error)) told
    → EndsIn save (LoadWay job files Loaded) old new result
ends-unloaded save job files Loaded old new error told result told_is none same kept gives closes =
    let early = early-by old new (refused_line (load_refusal error)) (refused_status (load_refusal error)) told result told_is none same kept closes in
    record {
      accounted = accounted-early save old new _ _ result (refused-plain (load_refusal error)) early;
      way = way-of_refusal job files Loaded old new error (load_refusal error) result refl gives early;
    }

accounted-memory : (save : Option (List ℕ)) (old new : Beside) (result : Ending) → Early old new memory_line 9 result → Accounted save old new result.status
accounted-memory save old new result early = accounted-early save old new memory_line 9 result nine-plain early

pub ends-memory : (save : Option (List ℕ)) (Way : Beside → Beside → Ending → Type 0) → ((old new : Beside) (result : Ending) → Early old new memory_line 9 result → Way old new result)
    → (old new : Beside) (told : ℕ) (result : Ending) → result.status ≡ told → result.steps ≡ 0 → new.outside ≡ old.outside → new.keep ≡ old.keep
    → Closes old.trace new.trace [] memory_line 9 told → EndsIn save Way old new result
ends-memory save Way way old new told result told_is none same kept closes =
    let early = early-by old new memory_line 9 told result told_is none same kept closes in record { accounted = accounted-memory save old new result early; way = way old new result early }

-- an image that was not restored, and not for want of memory
abbrev unrestored : ImageError → Result Machine ImageError
unrestored error = Err error

refused-fields : (fields : Result Machine ImageError) (error : ImageError) (why : Refusal) → image_refusal error ≡ Some why
    → MatchResult fields (λ m. (unrestored error ≡ Err NoImageMemory) ⊎ IsTested m (unrestored error)) (λ e. unrestored error ≡ Err e) → MatchResult fields (λ m. IsWrong m error) (λ e. error ≡ e)
refused-fields (Ok m) error why is (inl none) = absurd (let same : error ≡ NoImageMemory = cc in let no : image_refusal NoImageMemory ≡ Some why = subst (λ e. image_refusal e ≡ Some why) same is in cc)
refused-fields (Ok m) error why is (inr wrong) = wrong
refused-fields (Err e) error why is same = cc

way-of_image : (save : Option (List ℕ)) (steps : ℕ) (image : List ℕ) (old new : Beside) (error : ImageError) (why : Option Refusal) (result : Ending)
    → image_refusal error ≡ why → IsRestored image (Err error) → Early old new (refused_line why) (refused_status why) result → ContinueWay save steps image old new result
way-of_image save steps image old new error None result why_is is early = no_machine_memory early
way-of_image save steps image old new error (Some why) result why_is is early = image_refused error why why_is (refused-fields (fields_of image) error why why_is is) early

pub ends-unrestored : (save : Option (List ℕ)) (steps : ℕ) (image : List ℕ) (old new : Beside) (error : ImageError) (told : ℕ) (result : Ending) → IsRestored image (Err error)
    → result.status ≡ told → result.steps ≡ 0 → new.outside ≡ old.outside → new.keep ≡ old.keep
    → Closes old.trace new.trace [] (refused_line (image_refusal error)) (refused_status (image_refusal error)) told → EndsIn save (ContinueWay save steps image) old new result
ends-unrestored save steps image old new error told result is told_is none same kept closes =
    let early = early-by old new (refused_line (image_refusal error)) (refused_status (image_refusal error)) told result told_is none same kept closes in
    record {
      accounted = accounted-early save old new _ _ result (refused-plain (image_refusal error)) early;
      way = way-of_image save steps image old new error (image_refusal error) result refl is early;
    }

-- the machine ran, and the keeper failed at its spelling
unkept : (save : Option (List ℕ)) (stop : Stop) (steps : ℕ) (a b : At) (m : Machine) (keep : Keep) (new : Beside) (failed : Failure) (result : Ending) → m ≡ record { active = b.active; body = b.body }
    → new.outside ≡ b.outside → new.trace ≡ b.trace → Keeps (due_at save stop) m keep new.keep (Err failed)
    → result.status ≡ 8 → result.steps ≤ steps → RunsTo steps (steps - result.steps) a b stop
    → Blames stop (counts_at (beside a.outside a.trace keep)) (counts_at (beside b.outside b.trace keep)) → Accounts a.outside.rack b.outside.rack
    → EndsIn save (MachineRan save (flat a.body a.active) steps) (beside a.outside a.trace keep) new result
unkept None Limit steps a b m keep new failed result m_is same traced keeps eight few runs calm devices = absurd keeps
unkept (Some name) Limit steps a b m keep new failed result m_is same traced keeps eight few runs calm devices =
    record {
      accounted = accounted-unkept name (beside a.outside a.trace keep) (beside b.outside b.trace keep) new result.status eight calm devices same traced keeps.1.rose;
      way = ran-unkept name steps a b m keep new result m_is same traced keeps.0 keeps.1 eight few runs;
    }
unkept save stop steps a b m keep new failed result m_is same traced keeps eight few runs calm devices = absurd keeps

-- the steps that are left are those that were not done
steps-done : (steps left done : ℕ) → left ≤ steps → done ≡ steps - left → done ≤ steps
steps-done steps left done fewer is = omega (arith, fewer, is)

runs-done : (steps left done : ℕ) (a b : At) (stop : Stop) → done ≡ steps - left → RunsTo steps left a b stop → RunsTo steps (steps - done) a b stop
runs-done steps left done a b stop is runs =
    let own : left ≡ steps - done = omega (arith, runs.fewer, is) in subst (λ k. RunsTo steps k a b stop) own runs

pub ends-unkept : (save given : Option (List ℕ)) (stop : Stop) (steps left : ℕ) (a b : At) (m : Machine) (keep : Keep) (new : Beside) (failed : Failure) (result : Ending) → given ≡ due_at save stop
    → m ≡ record { active = b.active; body = b.body } → new.outside ≡ b.outside → new.trace ≡ b.trace → Keeps given m keep new.keep (Err failed)
    → result.status ≡ 8 → result.steps ≡ steps - left → RunsTo steps left a b stop
    → Blames stop (counts_at (beside a.outside a.trace keep)) (counts_at (beside b.outside b.trace keep)) → Accounts a.outside.rack b.outside.rack
    → EndsIn save (MachineRan save (flat a.body a.active) steps) (beside a.outside a.trace keep) new result
ends-unkept save given stop steps left a b m keep new failed result due m_is same traced keeps eight done runs calm devices =
    unkept save stop steps a b m keep new failed result m_is same traced (subst (λ name. Keeps name m keep new.keep (Err failed)) due keeps) eight
    (steps-done steps left result.steps runs.fewer done) (runs-done steps left result.steps a b stop done runs) calm devices

-- or it was kept, or nothing was to be, and the end line was put
pub ends-run : (save given : Option (List ℕ)) (stop : Stop) (steps left : ℕ) (a b : At) (m : Machine) (keep : Keep) (new : Beside) (set : Isa) (result : Ending) (done : Unit {0}) → given ≡ due_at save stop
    → m ≡ record { active = b.active; body = b.body } → set ≡ isa_of b.active → new.outside ≡ b.outside → Keeps given m keep new.keep (Ok done)
    → result.steps ≡ steps - left → RunsTo steps left a b stop
    → Blames stop (counts_at (beside a.outside a.trace keep)) (counts_at (beside b.outside b.trace keep)) → Accounts a.outside.rack b.outside.rack
    → Finishes stop set b.trace new.trace result.status → EndsIn save (MachineRan save (flat a.body a.active) steps) (beside a.outside a.trace keep) new result
ends-run save given stop steps left a b m keep new set result done due m_is set_is same keeps count runs blames devices finishes =
    record {
      accounted = accounted-stop save (beside a.outside a.trace keep) (beside b.outside b.trace keep) new set stop result.status blames devices same (keeps-calm given m keep new.keep done keeps) finishes;
      way = ran-of_run save steps a b m keep new set stop result done set_is m_is same (subst (λ name. Keeps name m keep new.keep (Ok done)) due keeps)
          (steps-done steps left result.steps runs.fewer count) (runs-done steps left result.steps a b stop count runs) finishes;
    }

-- the name under which the command of the words keeps what it runs
saved-of : (words : List (List ℕ)) (command : Command) → command_of words ≡ Ok command → IsSaved words (saved_by words command)
saved-of words command is =
    record {
      asked = λ other asks. let own : command_of words ≡ Ok other = (command-asked words other).1 asks in let same : command ≡ other = cc in ap (saved_by words) same;
      bad = λ place first. let own : command_of words ≡ Err (bad_at place) = (refusal-first words place).1 first in cc;
    }

-- words that ask for none
none-saved : (words : List (List ℕ)) (place : ℕ) → command_of words ≡ Err (bad_at place) → IsSaved words None
none-saved words place bad =
    record {
      asked = λ command asks. let own : command_of words ≡ Ok command = (command-asked words command).1 asks in cc;
      bad = λ other first. refl;
    }

-- a file that was not fetched
unfetched-plain : (error : FetchError) → IsPlain (unfetched_status error)
unfetched-plain NoRoom = nine-plain
unfetched-plain Failed = record { input = refl; out = refl; trace = refl; keep = refl }
unfetched-plain (TooLong limit) = record { input = refl; out = refl; trace = refl; keep = refl }

way-of_cause : (words : List (List ℕ)) (old new : World) (command : Command) (key : Key) (place : ℕ) (error : FetchError) (result : Ending)
    → Asks words command → IsNext words old.shelf.contents command key place → IsCause old.shelf.contents (limit_of key) (name_at words place) old.shelf.counts new.shelf.counts error
    → Early old.beside new.beside (unfetched_line key error) (unfetched_status error) result → Way words old new result
way-of_cause words old new command key place NoRoom result is next cause early = no_memory_for_file command key place is next cause.0 cause.1 early
way-of_cause words old new command key place Failed result is next cause early = no_file command key place is next cause early
way-of_cause words old new command key place (TooLong limit) result is next cause early = long_file command key place is next cause.0 cause.1 early

pub ends-of_missing : (words : List (List ℕ)) (old new : World) (command : Command) (missing : Missing) (told : ℕ) (result : Ending) → result.status ≡ told → result.steps ≡ 0 → command_of words ≡ Ok command → new.shelf.contents ≡ old.shelf.contents
    → MissesFirst words old.shelf.contents command keys_in_order old.shelf.counts new.shelf.counts missing → new.beside.outside ≡ old.beside.outside → new.beside.keep ≡ old.beside.keep
    → Closes old.beside.trace new.beside.trace [] (unfetched_line missing.key missing.error) (unfetched_status missing.error) told → EndsWith words old new result
ends-of_missing words old new command missing told result told_is none is kept misses same held closes =
    let early = early-by old.beside new.beside (unfetched_line missing.key missing.error) (unfetched_status missing.error) told result told_is none same held closes in
    record {
      contents = kept;
      save = saved_by words command;
      saved = saved-of words command is;
      accounted = accounted-early (saved_by words command) old.beside new.beside (unfetched_line missing.key missing.error) (unfetched_status missing.error) result (unfetched-plain missing.error) early;
      way = way-of_cause words old new command missing.key missing.place missing.error result ((command-asked words command).0 is)
          (record { before = misses.before; after = misses.after; order = misses.order; fetched = misses.fetched }) misses.cause early;
    }

-- the files that the command wants were fetched
pub ends-done : (words : List (List ℕ)) (old new : World) (command : Command) (files : Fetched) (save : Option (List ℕ)) (result : Ending) → command_of words ≡ Ok command → save ≡ saved_by words command
    → new.shelf.contents ≡ old.shelf.contents → AreFiles words old.shelf.contents command files → NoneRose old.shelf.counts new.shelf.counts
    → EndsIn save (FilesWay save command files) old.beside new.beside result → EndsWith words old new result
ends-done words old new command files save result is save_is kept are stay ends =
    let own : EndsIn (saved_by words command) (FilesWay (saved_by words command) command files) old.beside new.beside result =
    subst (λ o. EndsIn o (FilesWay o command files) old.beside new.beside result) save_is ends in
    record {
      contents = kept;
      save = saved_by words command;
      saved = saved-of words command is;
      accounted = own.accounted;
      way = fetched command files ((command-asked words command).0 is) are stay own.way;
    }

-- a command that keeps nothing
pub ends-other : (save : Option (List ℕ)) (command own : Command) (files : Fetched) (old new : Beside) (result : Ending) → command ≡ own → EndsIn None (FilesWay save own files) old new result
    → EndsIn save (FilesWay save command files) old new result
ends-other save command own files old new result is ends =
    subst (λ c. EndsIn save (FilesWay save c files) old new result) (sym is) (ends-quiet save (FilesWay save own files) old new result ends)

-- words that are no command
pub ends-of_words : (words : List (List ℕ)) (old new : World) (place : ℕ) (line : List ℕ) (told : ℕ) (result : Ending) → result.status ≡ told → result.steps ≡ 0 → command_of words ≡ Err (bad_at place) → line ≡ words_line place → new.shelf ≡ old.shelf
    → new.beside.outside ≡ old.beside.outside → new.beside.keep ≡ old.beside.keep → Closes old.beside.trace new.beside.trace [] line 2 told → EndsWith words old new result
ends-of_words words old new place line told result told_is none bad line_is shelf same kept closes =
    let early = early-by old.beside new.beside (words_line place) 2 told result told_is none same kept (subst (λ l. Closes old.beside.trace new.beside.trace [] l 2 told) line_is closes) in
    record {
      contents = ap (λ s. s.contents) shelf;
      save = None;
      saved = none-saved words place bad;
      accounted = accounted-early None old.beside new.beside (words_line place) 2 result (record { input = refl; out = refl; trace = refl; keep = refl }) early;
      way = bad_words place ((refusal-first words place).0 bad) (record { faults = λ n. ap (λ s. s.counts.faults n) shelf; excesses = λ n. ap (λ s. s.counts.excesses n) shelf }) early;
    }

pub accounted-sample : (old new : Beside) (calls depth : ℕ) (sampled : Sampled) (end : End) (result : Ending) → OnlyPuts old new result
    → PutsSample calls depth sampled end old.outside.out new.outside.out result.status → Accounted None old new result.status
accounted-sample old new calls depth sampled (ExitEnd code) result only puts =
    accounted-puts old new _ 0 result (record { input = refl; out = refl; trace = refl; keep = refl }) only puts
accounted-sample old new calls depth sampled (FaultEnd set fault) result only puts =
    accounted-puts old new _ 10 result (record { input = refl; out = refl; trace = refl; keep = refl }) only puts
accounted-sample old new calls depth sampled LimitEnd result only puts =
    accounted-quiet old new 11 result (record { input = refl; out = refl; trace = refl; keep = refl }) only puts.0 puts.1

pub sample-told : (calls depth : ℕ) (sampled : Sampled) (end : End) (old new : Output) (told : ℕ) (result : Ending) → result.status ≡ told
    → PutsSample calls depth sampled end old new told → PutsSample calls depth sampled end old new result.status
sample-told calls depth sampled end old new told result is puts = subst (PutsSample calls depth sampled end old new) (sym is) puts

-- a text that was put
pub ends-listed : (Way : Beside → Beside → Ending → Type 0) (text : List ℕ) → ((old new : Beside) (result : Ending) → Listed text old new result → Way old new result)
    → (old new : Beside) (told : ℕ) (result : Ending) → result.status ≡ told → OnlyPuts old new result → PutsText old.outside.out new.outside.out text 0 told → EndsIn None Way old new result
ends-listed Way text way old new told result told_is only puts =
    let out : PutsText old.outside.out new.outside.out text 0 result.status = subst (λ n. PutsText old.outside.out new.outside.out text 0 n) (sym told_is) puts in
    record {
      accounted = accounted-puts old new text 0 result (record { input = refl; out = refl; trace = refl; keep = refl }) only out;
      way = way old new result (record { only = only; out = out });
    }

-- the files of a job can be loaded
named-small : (contents : Contents) (name file : Option (List ℕ)) → IsNamed contents 16777216 name file → IsSmall file
named-small contents None None named = tt
named-small contents None (Some file) named = absurd named
named-small contents (Some name) None named = absurd named
named-small None (Some name) (Some file) named = named
named-small (Some held) (Some name) (Some file) named = named.1

named-no : (words : List (List ℕ)) (contents : Contents) (limit : ℕ) (o : Option ℕ) (file : Option (List ℕ)) → o ≡ None → IsNamed contents limit (option_map (name_at words) o) file → file ≡ None
named-no words contents limit None None none named = refl
named-no words contents limit None (Some file) none named = absurd named
named-no words contents limit (Some place) None none named = refl
named-no words contents limit (Some place) (Some file) none named = absurd (subst (λ x. IsNamed contents limit (option_map (name_at words) x) (Some file)) none named)

named-yes : (words : List (List ℕ)) (contents : Contents) (limit : ℕ) (o : Option ℕ) (file : Option (List ℕ)) → IsSome o → IsNamed contents limit (option_map (name_at words) o) file → IsSome file
named-yes words contents limit None None some named = some
named-yes words contents limit None (Some file) some named = refl
named-yes words contents limit (Some place) None some named = absurd named
named-yes words contents limit (Some place) (Some file) some named = refl

named-main : (words : List (List ℕ)) (contents : Contents) (limit : ℕ) (main : Isa) (r p : Option ℕ) (files : Files) → IsSome (main_file main r p)
    → IsNamed contents limit (option_map (name_at words) r) files.rsrc → IsNamed contents limit (option_map (name_at words) p) files.pef → HasMain main files
named-main words contents limit M68 r p files own rsrc pef = named-yes words contents limit r files.rsrc own rsrc
named-main words contents limit Ppc r p files own rsrc pef = named-yes words contents limit p files.pef own pef

named-alone : (words : List (List ℕ)) (contents : Contents) (limit : ℕ) (main : Isa) (f r p : Option ℕ) (flat : Option (List ℕ)) (files : Files)
    → IfSome f (λ place. (r ≡ None) × (p ≡ None)) → IfNone f (IsSome (main_file main r p)) → IsNamed contents limit (option_map (name_at words) f) flat
    → IsNamed contents limit (option_map (name_at words) r) files.rsrc → IsNamed contents limit (option_map (name_at words) p) files.pef → IsAlone flat main files
named-alone words contents limit main None r p None files alone own named rsrc pef = named-main words contents limit main r p files own rsrc pef
named-alone words contents limit main None r p (Some flat) files alone own named rsrc pef = absurd named
named-alone words contents limit main (Some place) r p None files alone own named rsrc pef = absurd named
named-alone words contents limit main (Some place) r p (Some flat) files alone own named rsrc pef =
    (named-no words contents limit r files.rsrc alone.0 rsrc, named-no words contents limit p files.pef alone.1 pef)

job-loadable : (words : List (List ℕ)) (contents : Contents) (command : Command) (job : Job) (files : Fetched) → place_in command (OfProgram Flat) ≡ job.flat → place_in command (OfProgram Rsrc) ≡ job.rsrc → place_in command (OfProgram Pef) ≡ job.pef → IsProperJob job
    → AreFiles words contents command files → AreLoadable files.program job.main
job-loadable words contents command job files flat_is rsrc_is pef_is proper are =
    let flat : IsNamed contents 16777216 (option_map (name_at words) job.flat) files.program.flat = subst (λ o. IsNamed contents 16777216 (option_map (name_at words) o) files.program.flat) flat_is (are (OfProgram Flat)) in
    let rsrc : IsNamed contents 16777216 (option_map (name_at words) job.rsrc) files.program.rsrc = subst (λ o. IsNamed contents 16777216 (option_map (name_at words) o) files.program.rsrc) rsrc_is (are (OfProgram Rsrc)) in
    let pef : IsNamed contents 16777216 (option_map (name_at words) job.pef) files.program.pef = subst (λ o. IsNamed contents 16777216 (option_map (name_at words) o) files.program.pef) pef_is (are (OfProgram Pef)) in
    record {
      named = named-alone words contents 16777216 job.main job.flat job.rsrc job.pef files.program.flat files.program proper.alone proper.own flat rsrc pef;
      flat = named-small contents (option_map (name_at words) job.flat) files.program.flat flat;
      rsrc = named-small contents (option_map (name_at words) job.rsrc) files.program.rsrc rsrc;
      pef = named-small contents (option_map (name_at words) job.pef) files.program.pef pef;
    }

pub loadable : (words : List (List ℕ)) (contents : Contents) (command : Command) (files : Fetched) → IfSome (job_in command) IsProperJob → AreFiles words contents command files → AreFor command files.program
loadable words contents (Run job) files proper are = job-loadable words contents (Run job) job files refl refl refl proper are
loadable words contents (Lists job address count) files proper are = job-loadable words contents (Lists job address count) job files refl refl refl proper are
loadable words contents (Sample calls depth) files proper are = tt
loadable words contents (Assemble set text address) files proper are = tt
loadable words contents (Continue image steps to) files proper are = tt
loadable words contents (Debug job script) files proper are = job-loadable words contents (Debug job script) job files refl refl refl proper are

-- a file has its limit
named-short : (contents : Contents) (limit : ℕ) (name file : Option (List ℕ)) → IsNamed contents limit name file → length (bytes_in file) ≤ limit
named-short contents limit None None named = omega arith
named-short contents limit None (Some file) named = absurd named
named-short contents limit (Some name) None named = absurd named
named-short None limit (Some name) (Some file) named = named
named-short (Some held) limit (Some name) (Some file) named = named.1

pub short-files : (words : List (List ℕ)) (contents : Contents) (command : Command) (files : Fetched) → AreFiles words contents command files → AreShort files
short-files words contents command files are =
    record {
      image = named-short contents 17825792 (option_map (name_at words) (place_in command Image)) files.image (are Image);
      text = named-short contents 16777216 (option_map (name_at words) (place_in command Text)) files.text (are Text);
      script = named-short contents 16777216 (option_map (name_at words) (place_in command Script)) files.script (are Script);
    }

-- the ways of a text
pub ends-assembled : (set : Isa) (at : ℕ) (text : List ℕ) (old new : Beside) (told : ℕ) (result : Ending) → result.status ≡ told → OnlyPuts old new result
    → OfBytes set at text (λ bytes. PutsText old.outside.out new.outside.out bytes 0 told) → EndsIn None (AssembleWay set at text) old new result
ends-assembled set at text old new told result told_is only put =
    ends-listed (AssembleWay set at text) put.bytes (λ old new result listed. assembled put.bytes put.is listed) old new told result told_is only put.puts

pub ends-text : (set : Isa) (at : ℕ) (text own : List ℕ) (old new : Beside) (result : Ending) → text ≡ own → EndsIn None (AssembleWay set at text) old new result → EndsIn None (AssembleWay set at own) old new result
ends-text set at text own old new result same ends = subst (λ t. EndsIn None (AssembleWay set at t) old new result) same ends

-- the text was put, or not
pub put-whole : (set : Isa) (at : ℕ) (text : List ℕ) (old new : Output) → OfBytes set at text (Grows old new) → OfBytes set at text (λ bytes. PutsText old new bytes 0 0)
put-whole set at text old new put = record { bytes = put.bytes; is = put.is; puts = inl (put.puts, refl) }

pub put-part : (set : Isa) (at : ℕ) (text : List ℕ) (old new : Output) → OfBytes set at text (StopsWithin old new) → OfBytes set at text (λ bytes. PutsText old new bytes 0 6)
put-part set at text old new put = record { bytes = put.bytes; is = put.is; puts = inr (put.puts, refl) }

pub ends-refused : (set : Isa) (at : ℕ) (text : List ℕ) (old new : Beside) (bad : Refused) (line : List ℕ) (told : ℕ) (result : Ending) → result.status ≡ told → result.steps ≡ 0 → IsAssembled set at text (Err bad) → line ≡ load_line (line_refusal bad)
    → new.outside ≡ old.outside → new.keep ≡ old.keep → Closes old.trace new.trace [] line 3 told → EndsIn None (AssembleWay set at text) old new result
ends-refused set at text old new bad line told result told_is none is line_is same kept closes =
    let early = early-by old new (load_line (line_refusal bad)) 3 told result told_is none same kept (subst (λ l. Closes old.trace new.trace [] l 3 told) line_is closes) in
    record {
      accounted = accounted-early None old new (load_line (line_refusal bad)) 3 result (record { input = refl; out = refl; trace = refl; keep = refl }) early;
      way = line_refused bad is early;
    }
