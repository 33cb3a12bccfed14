-- What the journal says of the devices, over any number of asks and ejects.
use Rattle.std.specs.Prelude.{◌≡◌, ◌==◌, ℕ, List, ◌++◌, length, map, filter, Bool, Option, None, Some, is_none, MatchBool, ⊤}
use Rattle.std.specs.List.{list_any}
use Rattle.mix_io.specs.Counts.{Rose}
use Rattle.dev_rack.specs.Slots.{Seen, device_at}
use Rattle.dev_rack.specs.Rack.{State}
use Rattle.dev_rack.specs.declared.answers.Asked.{Asked}

-- the words that a slot's device was asked by these entries, with its answers
abbrev pub pairs_of : ℕ → List Asked → List (ℕ × Option ℕ)
pairs_of slot entries = map (λ e. (e.word, e.answer)) (filter (λ e. e.slot == slot) entries)

abbrev pub has_failure : List (ℕ × Option ℕ) → Bool
has_failure pairs = list_any (λ p. is_none p.1) pairs

-- a conversation grew by these pairs, or is told no more
abbrev pub NotesAll : Option (List (ℕ × Option ℕ)) → Option (List (ℕ × Option ℕ)) → List (ℕ × Option ℕ) → Type 0
NotesAll None new pairs = new ≡ None
NotesAll (Some asks) None pairs = ⊤
NotesAll (Some asks) (Some more) pairs = more ≡ asks ++ pairs

-- a device was asked these words in order, with these answers, and nothing else
pub record HeardAll (before after : Seen) (pairs : List (ℕ × Option ℕ)) : Type 0 where
  pub told : NotesAll before.told after.told pairs
  pub count : MatchBool (has_failure pairs) (Rose before.faults after.faults) (after.faults ≡ before.faults)

-- the journal grew by entries that account for each device: one that is there at the end was in its slot
-- all the time, and was asked what the entries of its slot say
pub record Accounts (old new : State) : Type 0 where
  pub entries : List Asked
  pub noted : new.journal ≡ old.journal ++ entries
  pub slots : length new.slots ≡ length old.slots
  pub devices : (slot : ℕ) (after : Seen) → device_at new.slots slot ≡ Some after →
      (before : Seen) × (device_at old.slots slot ≡ Some before) × HeardAll before after (pairs_of slot entries)
