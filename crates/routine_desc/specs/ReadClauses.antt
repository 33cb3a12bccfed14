-- What the readers answer: the records or their number, or the first rule that the bytes break.
use Rattle.std.specs.Prelude.{ℕ, ◌≡◌, ◌+◌, ◌≤◌, List, take, Some, None, Result, Ok, Err}
use Rattle.big_memory.specs.Memory.{Memory}
use Rattle.big_memory.specs.Numbers.{number_at}
use Rattle.routine_desc.specs.declared.record.Desc.{Desc}
use Rattle.routine_desc.specs.declared.record.Rec.{Rec}
use Rattle.routine_desc.specs.declared.record.BadDesc.{BadDesc}
use Rattle.routine_desc.specs.Layout.{bad_header}
use Rattle.routine_desc.specs.Read.{body_of, desc_of}

-- the records that a descriptor holds
abbrev pub records_of : Desc → List Rec
records_of desc = take desc.count desc.recs

-- an answer of the reader
pub record IsDesc (a : ℕ) (records : Result (List Rec) BadDesc) (desc : Desc) : Type 0 where
  pub at : desc.at ≡ a
  pub few : desc.count ≤ 64
  pub records_are : records ≡ Ok (records_of desc)

abbrev pub Answers : ℕ → Result (List Rec) BadDesc → Result Desc BadDesc → Type 0
Answers a records (Ok desc) = IsDesc a records desc
Answers a records (Err e) = records ≡ Err e

abbrev pub Reads : Memory → ℕ → Result Desc BadDesc → Type 0
Reads m a result = Answers a (desc_of m a) result

-- how many records there are once the header is good, or the rule that it breaks
abbrev pub Counts : Memory → ℕ → Result ℕ BadDesc → Type 0
Counts m a (Ok count) = (desc_of m a ≡ body_of m a) × (count ≡ number_at (a + 10) 2 m.bytes + 1)
Counts m a (Err e) = desc_of m a ≡ Err e

-- the header is good, or breaks this rule first
abbrev pub TellsHeader : {T : Type 0} → Memory → ℕ → Result T BadDesc → Type 0
TellsHeader m a (Ok count) = bad_header m a ≡ None
TellsHeader m a (Err e) = bad_header m a ≡ Some e

-- a list filled with all records, or the refusal of them
abbrev pub FillsBody : {E : Type 0} → Memory → ℕ → List Rec → Result E BadDesc → Type 0
FillsBody m a new (Ok done) = body_of m a ≡ Ok new
FillsBody m a new (Err e) = body_of m a ≡ Err e
