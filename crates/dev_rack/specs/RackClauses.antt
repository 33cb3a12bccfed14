-- An ask and an eject: what is answered, and what the journal and the slots are then.
use Rattle.std.specs.Prelude.{◌≡◌, ℕ, ◌<◌, [], ◌∷◌, ◌++◌, length, Bool, true, false, None, IsSome, Result, Ok, Err, slice_set}
use Rattle.std.specs.Result.{result_ok}
use Rattle.mix_io.specs.declared.errors.Failed.{Failed as DeviceFailed}
use Rattle.dev_rack.specs.SlotsClauses.{HeardAt}
use Rattle.dev_rack.specs.Slots.{device_at}
use Rattle.dev_rack.specs.declared.answers.Answer.{Answer}
use Rattle.dev_rack.specs.declared.answers.Answer.TheVariants.{Word, Failed, Empty, Full}
use Rattle.dev_rack.specs.Rack.{State, journal_limit}

-- the device in the slot was asked this word once, and one entry says so
pub record Answered (old : State) (slot word : ℕ) (result : Result ℕ DeviceFailed) (new : State) : Type 0 where
  pub room : length old.journal < journal_limit
  pub heard : HeardAt old.slots new.slots slot word result
  pub noted : new.journal ≡ old.journal ++ (record { slot = slot; word = word; answer = result_ok result }) ∷ []

-- an ask: the slot is looked at first, then the journal's room; a refusal asks no device and changes nothing
abbrev pub Asks : State → ℕ → ℕ → Answer → State → Type 0
Asks old slot word (Word answer) new = Answered old slot word (Ok answer) new
Asks old slot word Failed new = Answered old slot word (Err (record {})) new
Asks old slot word Empty new = (device_at old.slots slot ≡ None) × (new ≡ old)
Asks old slot word Full new = IsSome (device_at old.slots slot) × (length old.journal ≡ journal_limit) × (new ≡ old)

-- an eject: the slot of a device holds none afterwards, and an empty slot stays as it is
abbrev pub Ejects : State → ℕ → Bool → State → Type 0
Ejects old slot true new = IsSome (device_at old.slots slot) × (new ≡ record old { slots = slice_set old.slots slot None })
Ejects old slot false new = (device_at old.slots slot ≡ None) × (new ≡ old)
