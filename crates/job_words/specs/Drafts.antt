-- What the words so far have given, and what it makes.
use Rattle.std.specs.Prelude.{ℕ, ◌&&◌, ◌||◌, Bool, true, if◌then◌else◌, Option, Some, None, is_none, is_some, unwrap_or, replicate, slice_index_or, slice_set}
use Rattle.std.specs.Option.{option_map, option_and_then}
use Rattle.mix_bits.specs.declared.isa.Isa.{Isa}
use Rattle.mix_bits.specs.declared.file.File.TheVariants.{Flat, Rsrc, Pef}
use Rattle.job_words.specs.Jobs.{main_file, usual_set}
use Rattle.job_words.specs.declared.draft.Draft.{Draft}
use Rattle.job_words.specs.declared.draft.Given.{Given}
use Rattle.job_words.specs.declared.job.Job.{Job}
use Rattle.job_words.specs.declared.job.Key.TheVariants.{Program, Image, Text, Script}
use Rattle.job_words.specs.declared.job.Command.{Command}
use Rattle.job_words.specs.declared.job.Command.TheVariants.{Run, List, Sample, Assemble, Continue, Debug}
use Rattle.job_words.specs.declared.setting.Name.{Name}
use Rattle.job_words.specs.declared.setting.Name.TheVariants.{File, Main, Ram, Steps, At, Count, Calls, Depth, CodeSet, Save}
use Rattle.job_words.specs.declared.setting.Setting.{Setting}
use Rattle.job_words.specs.declared.setting.Value.{Value}
use Rattle.job_words.specs.declared.setting.Value.TheVariants.{Named, Set, Number}
use Rattle.job_words.specs.declared.setting.Verb.{Verb}
use Rattle.job_words.specs.declared.setting.Verb.TheVariants.{ToRun, ToList, ToSample, ToAssemble, ToContinue, ToDebug}

-- a draft in which nothing is given
abbrev pub nothing : Draft
nothing = record { slots = replicate 15 None }

-- the number of a key
abbrev pub index_of : Name → ℕ
index_of (File (Program Flat)) = 0
index_of (File (Program Rsrc)) = 1
index_of (File (Program Pef)) = 2
index_of Main = 3
index_of Ram = 4
index_of Steps = 5
index_of At = 6
index_of Count = 7
index_of Calls = 8
index_of Depth = 9
index_of (File Text) = 10
index_of CodeSet = 11
index_of (File Image) = 12
index_of (File Script) = 13
index_of Save = 14

-- what is given for a key
abbrev pub given : Draft → Name → Option Given
given draft name = slice_index_or draft.slots (index_of name) None

abbrev pub given_at : ℕ → Value → Given
given_at place value = record { place = place; value = value }

abbrev pub is_open : Draft → Name → Bool
is_open draft name = is_none (given draft name)

-- no key is given that this one excludes: beside a flat file stands no other of a program
abbrev pub is_alone : Draft → Name → Bool
is_alone draft (File (Program Flat)) = is_open draft (File (Program Rsrc)) && is_open draft (File (Program Pef))
is_alone draft (File (Program Rsrc)) = is_open draft (File (Program Flat))
is_alone draft (File (Program Pef)) = is_open draft (File (Program Flat))
is_alone draft name = true

abbrev pub has_room : Draft → Name → Bool
has_room draft name = is_open draft name && is_alone draft name

-- the draft with one more setting, which must have room
abbrev pub put : Draft → ℕ → Setting → Draft
put draft place setting = record { slots = slice_set draft.slots (index_of setting.name) (Some (given_at place setting.value)) }

abbrev pub with_setting : Draft → ℕ → Setting → Option Draft
with_setting draft place setting = if has_room draft setting.name then Some (put draft place setting) else None

-- the place of the word that names a file for a key
abbrev pub named_at : ℕ → Value → Option ℕ
named_at place Named = Some place
named_at place value = None

abbrev pub place : Draft → Name → Option ℕ
place draft name = option_and_then (λ g. named_at g.place g.value) (given draft name)

-- the number, and the instruction set, that is given for a key
abbrev pub number_of : Value → Option ℕ
number_of (Number n) = Some n
number_of value = None

abbrev pub number : Draft → Name → Option ℕ
number draft name = option_and_then (λ g. number_of g.value) (given draft name)

abbrev pub set_of : Value → Option Isa
set_of (Set set) = Some set
set_of value = None

abbrev pub set : Draft → Name → Option Isa
set draft name = option_and_then (λ g. set_of g.value) (given draft name)

-- the main set: as a word names it, else the usual one of the files
abbrev pub main_in : Draft → Isa
main_in draft = unwrap_or (set draft Main) (usual_set (place draft (File (Program Flat))) (place draft (File (Program Rsrc))))

-- whether a job has its main program
abbrev pub has_program : Job → Bool
has_program job = is_some job.flat || is_some (main_file job.main job.rsrc job.pef)

-- how many steps are done at most
abbrev pub steps_in : Draft → ℕ
steps_in draft = unwrap_or (number draft Steps) 1000000

-- the job of a draft, with the usual numbers where none is given
abbrev pub job_by : Draft → Job
job_by draft =
    record {
      flat = place draft (File (Program Flat));
      rsrc = place draft (File (Program Rsrc));
      pef = place draft (File (Program Pef));
      main = main_in draft;
      kib = unwrap_or (number draft Ram) 1024;
      steps = steps_in draft;
      save = place draft Save;
    }

-- or none where its program is missing
abbrev pub job_of : Draft → Option Job
job_of draft = if has_program (job_by draft) then Some (job_by draft) else None

-- the command of a draft, or none where something is missing
abbrev pub made : Verb → Draft → Option Command
made ToRun draft = option_map Run (job_of draft)
made ToList draft = option_and_then (λ job. option_and_then (λ address. option_map (λ count. List job address count) (number draft Count)) (number draft At)) (job_of draft)
made ToSample draft = option_and_then (λ calls. option_map (λ depth. Sample calls depth) (number draft Depth)) (number draft Calls)
made ToAssemble draft = option_and_then (λ code. option_and_then (λ text. option_map (λ address. Assemble code text address) (number draft At)) (place draft (File Text))) (set draft CodeSet)
made ToContinue draft = option_map (λ image. Continue image (steps_in draft) (place draft Save)) (place draft (File Image))
made ToDebug draft = option_and_then (λ job. option_map (Debug job) (place draft (File Script))) (job_of draft)
