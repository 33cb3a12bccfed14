-- What is true of the words where mixedrun refuses them for a reason.
use Rattle.std.specs.Prelude.{ℕ, ◌≡◌, ◌≤◌, true, false, List, [], length, slice_index_or, Some, None, IsOk, Err}
use Rattle.job_words.specs.Words.{bad_at, command_of}
use Rattle.look_text.specs.Labels.{example, label_of}
use Rattle.look_text.specs.Reasons.{is_refused}
use Rattle.look_text.specs.declared.why.Why.{Why}
use Rattle.look_text.specs.declared.why.Why.TheVariants.{Taken, Empty, Command, Missing, Keyless, Key, Value, Again}

-- a word behind a command: it has none of mixedrun's keys; or it has this one, and at a bad value the word is refused
-- alone, too; at an unknown key so is one that sets it as it may be set; a word that is refused for the words before it is
-- not refused alone
abbrev pub ExplainsWord : List ℕ → List ℕ → ℕ → Why → Type 0
ExplainsWord command word place (Keyless at) = (at ≡ place) × (label_of word ≡ None)
ExplainsWord command word place (Key at label) = (at ≡ place) × (label_of word ≡ Some label) × (is_refused command (example label) ≡ true)
ExplainsWord command word place (Value at label) = (at ≡ place) × (label_of word ≡ Some label) × (is_refused command (example label) ≡ false) × (is_refused command word ≡ true)
ExplainsWord command word place (Again at label) = (at ≡ place) × (label_of word ≡ Some label) × (is_refused command word ≡ false)
ExplainsWord command word place why = ⊥

abbrev pub at_place : List (List ℕ) → ℕ → List ℕ
at_place words place = slice_index_or words place []

-- the words are refused at this place, for a reason that holds of its word
pub record IsAt (words : List (List ℕ)) (place : ℕ) (why : Why) : Type 0 where
  pub refused : command_of words ≡ Err (bad_at place)
  pub reason : ExplainsWord (at_place words 0) (at_place words place) place why

abbrev pub Explains : List (List ℕ) → Why → Type 0
Explains words Taken = IsOk (command_of words)
Explains words Empty = words ≡ []
Explains words Command = command_of words ≡ Err (bad_at 0)
Explains words Missing = (place : ℕ) × (command_of words ≡ Err (bad_at place)) × (length words ≤ place)
Explains words (Keyless place) = IsAt words place (Keyless place)
Explains words (Key place label) = IsAt words place (Key place label)
Explains words (Value place label) = IsAt words place (Value place label)
Explains words (Again place label) = IsAt words place (Again place label)
