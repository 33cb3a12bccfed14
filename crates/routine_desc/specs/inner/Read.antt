-- A descriptor read in parts.
use Rattle.std.specs.Prelude.{ℕ, ◌≡◌, Bool, if◌then◌else◌, List, length, Option, Result, Ok, Err}
use Rattle.std.specs.Option.{option_map_or}
use Rattle.std.specs.Result.{result_map_both, result_unwrap_or}
use Rattle.proc_info.specs.Codes.{is_dispatched}
use Rattle.proc_info.specs.Signature.{Signature}
use Rattle.proc_info.specs.declared.conv.Conv.{Conv}
use Rattle.proc_info.specs.declared.conv.Conv.TheVariants.{Pascal}
use Rattle.proc_info.specs.declared.bad_info.BadInfo.{BadInfo}
use Rattle.big_memory.specs.Memory.{Memory}
use Rattle.routine_desc.specs.declared.record.Desc.{Desc}
use Rattle.routine_desc.specs.declared.record.Rec.{Rec}
use Rattle.routine_desc.specs.declared.record.BadDesc.{BadDesc}
use Rattle.routine_desc.specs.declared.record.BadDesc.TheVariants.{Info, Mixed}
use Rattle.routine_desc.specs.Read.{read_record, first_records, all_alike, body_of}
use Rattle.routine_desc.specs.ReadClauses.{Answers}

-- the value, unless a rule is broken
abbrev pub unless_broken : {A : Type 0} → Option BadDesc → Result A BadDesc → Result A BadDesc
unless_broken rule value = option_map_or Err rule value

-- the record, if its procInfo has a signature
abbrev pub if_signed : Rec → Result Signature BadInfo → Result Rec BadDesc
if_signed rec signed = result_map_both (λ sig. rec) Info signed

-- whether a convention is there and is dispatched
abbrev pub is_dispatched_in : Result Conv BadInfo → Bool
is_dispatched_in conv = is_dispatched (result_unwrap_or conv Pascal)

-- the records, if they are called alike
abbrev pub if_alike : List Rec → Result (List Rec) BadDesc
if_alike rs = if all_alike rs then Ok rs else Err Mixed

-- the same once the header is good
abbrev pub ReadsBody : Memory → ℕ → Result Desc BadDesc → Type 0
ReadsBody m a result = Answers a (body_of m a) result

-- a record that was read, or the refusal of it
abbrev pub FillsRecord : {E : Type 0} → Memory → ℕ → ℕ → Rec → Result E BadDesc → Type 0
FillsRecord m a p new (Ok done) = read_record m a p ≡ Ok new
FillsRecord m a p new (Err e) = read_record m a p ≡ Err e

-- a list filled with the first records, as many as it has places, or the refusal of one of them
abbrev pub FillsRecords : {E : Type 0} → Memory → ℕ → List Rec → List Rec → Result E BadDesc → Type 0
FillsRecords m a old new (Ok done) = (first_records m a (length old) ≡ Ok new) × (length new ≡ length old)
FillsRecords m a old new (Err e) = (first_records m a (length old) ≡ Err e) × (length new ≡ length old)
