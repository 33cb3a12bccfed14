-- What holds of each command that is read: it follows from what the words set.
use Rattle.std.proofs.Common.{◌≡◌, ℕ, ◌≤◌, ◌&&◌, inl, inr, nat_le, Bool, true, false, if◌then◌else◌, List, Option, Some, None, IfSome, Result, Ok, Err, IfErr, IfOk, arith, subst, refl, sym, ◌∙◌}
use Rattle.std.specs.Option.{option_and_then, option_map}
use Rattle.std.proofs.lemmas.Bool.Decides.{nat_tests}
use Rattle.mix_bits.specs.Numbers.{decimal_number}
use Rattle.job_words.specs.SettingsClauses.{file, named, numbered}
use Rattle.job_words.specs.Settings.{kept_within, number_in, number_within, value_in, value_of}
use Rattle.job_words.specs.JobsClauses.{HasKey, IsProper, IsProperJob}
use Rattle.job_words.specs.Jobs.{place_in, place_of}
use Rattle.job_words.specs.Words.{command_of}
use Rattle.job_words.specs.Asks.{word_at, AreRead, Sets, IsSet, IsSetOr, IsWhere, AsksJob, Asks, IsFirstBad}
use Rattle.job_words.proofs.Keys.{Reads, setting-reads}
use Rattle.job_words.proofs.Requested.{command-asked, refusal-first}
use Rattle.mix_bits.specs.declared.isa.Isa.{Isa}
use Rattle.mix_bits.specs.declared.file.File.TheVariants.{Flat, Rsrc, Pef}
use Rattle.job_words.specs.declared.job.BadWord.{BadWord}
use Rattle.job_words.specs.declared.job.Command.{Command}
use Rattle.job_words.specs.declared.job.Command.TheVariants.{Run, List as Listing, Sample, Assemble, Continue, Debug}
use Rattle.job_words.specs.declared.job.Job.{Job}
use Rattle.job_words.specs.declared.job.Key.{Key}
use Rattle.job_words.specs.declared.job.Key.TheVariants.{Program, Image, Text, Script}
use Rattle.job_words.specs.declared.setting.Name.{Name}
use Rattle.job_words.specs.declared.setting.Name.TheVariants.{File, Ram, Count, Calls, Depth, Save}
use Rattle.job_words.specs.declared.setting.Value.TheVariants.{Number}
use Rattle.job_words.specs.declared.setting.Verb.{Verb}
use Rattle.job_words.specs.declared.setting.Verb.TheVariants.{ToRun, ToList, ToSample, ToAssemble, ToContinue, ToDebug}

word-named : (verb : Verb) (words : List (List ℕ)) (name : Name) (p : ℕ) → Sets verb words p (named name) → HasKey words name p
word-named verb words name p set =
    let own : Reads (word_at words p) (named name) = setting-reads verb (word_at words p) (named name) set.reads in
    record { inside = set.inside; keyed = record { equals = own.equals; named = own.named } }

where-named : (verb : Verb) (words : List (List ℕ)) (name : Name) (o : Option ℕ) → IsWhere verb words (named name) o → IfSome o (HasKey words name)
where-named verb words name None is = tt
where-named verb words name (Some p) is = word-named verb words name p ((is p).0 refl)

job-named : (verb : Verb) (words : List (List ℕ)) (job : Job) → AsksJob verb words job → (key : Key) → IfSome (place_of job key) (HasKey words (File key))
job-named verb words job asks (Program Flat) = where-named verb words (File (Program Flat)) job.flat asks.flat
job-named verb words job asks (Program Rsrc) = where-named verb words (File (Program Rsrc)) job.rsrc asks.rsrc
job-named verb words job asks (Program Pef) = where-named verb words (File (Program Pef)) job.pef asks.pef
job-named verb words job asks key = tt

-- a number that is set is in its key's range
kept-range : (b c : Bool) (least most n k : ℕ) → nat_le least n ≡ b → nat_le n most ≡ c → option_map Number (if b && c then Some n else None) ≡ Some (Number k) → (least ≤ k) × (k ≤ most)
kept-range true true least most n k low high is = let same : n ≡ k = cc in subst (λ k. (least ≤ k) × (k ≤ most)) same (grind (arith, nat_tests), grind (arith, nat_tests))
kept-range true false least most n k low high is = cc
kept-range false c least most n k low high is = cc

within-range : (o : Option ℕ) (least most k : ℕ) → option_map Number (option_and_then (kept_within least most) o) ≡ Some (Number k) → (least ≤ k) × (k ≤ most)
within-range None least most k is = cc
within-range (Some n) least most k is = kept-range (nat_le least n) (nat_le n most) least most n k refl refl is

nowhere : (verb : Verb) (words : List (List ℕ)) (name : Name) (o : Option ℕ) → IsWhere verb words (named name) o → (¬ IsSet verb words (named name)) → o ≡ None
nowhere verb words name None is none = refl
nowhere verb words name (Some p) is none = absurd (none (p, (is p).0 refl))

alone-by : (verb : Verb) (words : List (List ℕ)) (job : Job) (o : Option ℕ) → job.flat ≡ o → AreRead verb words → AsksJob verb words job → IfSome o (λ place. (job.rsrc ≡ None) × (job.pef ≡ None))
alone-by verb words job None is read asks = tt
alone-by verb words job (Some p) is read asks =
    let apart = read.alone (p, (asks.flat p).0 is) in
    (nowhere verb words (File (Program Rsrc)) job.rsrc asks.rsrc apart.0, nowhere verb words (File (Program Pef)) job.pef asks.pef apart.1)

set-range : (verb : Verb) (words : List (List ℕ)) (name : Name) (least most n : ℕ) → ((text : List ℕ) → value_of name text ≡ number_in (number_within least most text)) → IsSet verb words (numbered name n)
    → (least ≤ n) × (n ≤ most)
set-range verb words name least most n read set =
    let text : List ℕ = value_in (word_at words set.0) in
    within-range (decimal_number text) least most n (sym (read text) ∙ (setting-reads verb (word_at words set.0) (numbered name n) set.1.reads).value)

ram-range : (verb : Verb) (words : List (List ℕ)) (kib : ℕ) → IsSetOr verb words (numbered Ram) 1024 kib → (128 ≤ kib) × (kib ≤ 16384)
ram-range verb words kib (inl set) = set-range verb words Ram 128 16384 kib (λ text. refl) set
ram-range verb words kib (inr usual) = let same : kib ≡ 1024 = usual.1 in (omega arith, omega arith)

proper-job : (verb : Verb) (words : List (List ℕ)) (job : Job) → AreRead verb words → AsksJob verb words job → IsProperJob job
proper-job verb words job read asks = record { alone = alone-by verb words job job.flat refl read asks; own = asks.program; ram = ram-range verb words job.kib asks.kib }

text-named : (words : List (List ℕ)) (set : Isa) (text address : ℕ) (key : Key) → Sets ToAssemble words text (file Text) → IfSome (place_in (Assemble set text address) key) (HasKey words (File key))
text-named words set text address Text named = word-named ToAssemble words (File Text) text named
text-named words set text address key named = tt

image-named : (words : List (List ℕ)) (image steps : ℕ) (save : Option ℕ) (key : Key) → Sets ToContinue words image (file Image) → IfSome (place_in (Continue image steps save) key) (HasKey words (File key))
image-named words image steps save Image named = word-named ToContinue words (File Image) image named
image-named words image steps save key named = tt

debug-named : (words : List (List ℕ)) (job : Job) (script : ℕ) (key : Key) → AsksJob ToDebug words job → Sets ToDebug words script (file Script) → IfSome (place_in (Debug job script) key) (HasKey words (File key))
debug-named words job script Script asks named = word-named ToDebug words (File Script) script named
debug-named words job script key asks named = job-named ToDebug words job asks key

asked-proper : (words : List (List ℕ)) (command : Command) → Asks words command → IsProper words command
asked-proper words (Run job) asks = record { files = job-named ToRun words job asks.1; save = where-named ToRun words Save job.save asks.1.save; job = proper-job ToRun words job asks.0 asks.1; counts = tt }
asked-proper words (Listing job address count) asks =
    record { files = job-named ToList words job asks.1; save = tt; job = proper-job ToList words job asks.0 asks.1; counts = set-range ToList words Count 1 4096 count (λ text. refl) asks.3 }
asked-proper words (Sample calls depth) asks = record { files = λ key. tt; save = tt; job = tt; counts = (set-range ToSample words Calls 1 1000 calls (λ text. refl) asks.1, set-range ToSample words Depth 1 300 depth (λ text. refl) asks.2) }
asked-proper words (Assemble code text address) asks = record { files = λ key. text-named words code text address key asks.2; save = tt; job = tt; counts = tt }
asked-proper words (Continue image steps save) asks = record { files = λ key. image-named words image steps save key asks.1; save = where-named ToContinue words Save save asks.3; job = tt; counts = tt }
asked-proper words (Debug job script) asks = record { files = λ key. debug-named words job script key asks.1 asks.2; save = tt; job = proper-job ToDebug words job asks.0 asks.1; counts = tt }

pub proper-command : (words : List (List ℕ)) (r : Result Command BadWord) → r ≡ command_of words → IfOk r (IsProper words)
proper-command words (Ok command) same = asked-proper words command ((command-asked words command).0 (sym same))
proper-command words (Err bad) same = tt

pub asked-command : (words : List (List ℕ)) (r : Result Command BadWord) → r ≡ command_of words → IfOk r (Asks words)
asked-command words (Ok command) same = (command-asked words command).0 (sym same)
asked-command words (Err bad) same = tt

pub refused-place : (words : List (List ℕ)) (r : Result Command BadWord) → r ≡ command_of words → IfErr r (λ bad. IsFirstBad words bad.place)
refused-place words (Ok command) same = tt
refused-place words (Err bad) same = (refusal-first words bad.place).0 (sym same)
