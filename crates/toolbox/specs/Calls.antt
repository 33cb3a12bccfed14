-- What a host call answers, and what it leaves, in terms of the table.
use Rattle.std.specs.Prelude.{◌≡◌, ℕ, List, [], ◌∷◌, length, map, drop, Option, None, Some, is_some, ⊤}
use Rattle.mix_io.specs.Streams.{Output}
use Rattle.dev_rack.specs.Rack.{State}
use Rattle.toolbox.specs.Effects.{Around}

-- the input as far as it tells: the bytes that are left, and its count of faults
pub record Input : Type 0 where
  pub left : Option (List ℕ)
  pub faults : ℕ

-- the outside as far as it tells
pub record Outside : Type 0 where
  pub input : Input
  pub rack : State
  pub out : Output

-- the answers that the new entries of a journal tell
abbrev pub answers_since : State → State → List (Option ℕ)
answers_since old new = map (λ e. e.answer) (drop (length old.journal) new.journal)

-- what a rack and an input hold for the machine, for some bytes that are left and some answers to come
abbrev pub around_at : Outside → List ℕ → List (Option ℕ) → Around
around_at o input answers =
    record { input = input; slots = map is_some o.rack.slots; asks = o.rack.journal; answers = answers }

-- what a call takes from the input: nothing, a byte, or the news that none is left
pub data Taken : Type 0 where
  Nothing : Taken
  Byte : ℕ → Taken
  TheEnd : Taken

-- the bytes that were left before and are left after
abbrev pub Took : Taken → List ℕ → List ℕ → Type 0
Took Nothing before after = before ≡ after
Took (Byte byte) before after = before ≡ byte ∷ after
Took TheEnd before after = (before ≡ []) × (after ≡ [])

-- the bytes that are left, as far as an input tells them: where it tells nothing, they may be any
abbrev pub IsLeft : Option (List ℕ) → List ℕ → Type 0
IsLeft None bytes = ⊤
IsLeft (Some told) bytes = bytes ≡ told
