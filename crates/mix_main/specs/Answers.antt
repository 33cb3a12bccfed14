-- What the program answers to its words: a text, a run, or a refusal of words that were not read.
use Rattle.std.specs.Prelude.{◌≡◌, ◌≢◌, ℕ, List, [], ◌∷◌, Option, None, Some, codes, if◌then◌else◌}
use Rattle.std.specs.Str.{bytes_eq}
use Rattle.std.specs.declared.io.ErrorKind.{ErrorKind}
use Rattle.std.specs.declared.io.ErrorKind.TheVariants.{OutOfMemory}
use Rattle.mix_top.specs.World.{Closes, PutsText}
use Rattle.mix_main.specs.Runs.{Outputs, RunsIfRoom}

-- the text that words ask for: the help or the version, each by a word that stands alone
abbrev pub text_named : List ℕ → List ℕ → List ℕ → Option (List ℕ)
text_named help version word = if bytes_eq word (codes "--help") then Some help else (if bytes_eq word (codes "--version") then Some version else None)

abbrev pub text_for : List ℕ → List ℕ → List (List ℕ) → Option (List ℕ)
text_for help version [] = None
text_for help version (word ∷ []) = text_named help version word
text_for help version (word ∷ next ∷ words) = None

-- a text is put on the output alone, and all other words are run
abbrev pub AnswersWith : Option (List ℕ) → List (List ℕ) → Option (List ℕ) → Outputs → Outputs → ℕ → Type 0
AnswersWith (Some text) words left old new status = (new.trace ≡ old.trace) × PutsText old.out new.out text 0 status
AnswersWith None words left old new status = RunsIfRoom words left old new status

abbrev pub Answers : List ℕ → List ℕ → List (List ℕ) → Option (List ℕ) → Outputs → Outputs → ℕ → Type 0
Answers help version words left old new status = AnswersWith (text_for help version words) words left old new status

-- the line for words of which one is no text
abbrev pub unread_line : List ℕ
unread_line = codes "words 0\n"

-- the words were not read: for want of memory nothing is put; or one of them is no text
pub record IsUnread (kind : ErrorKind) (old new : Outputs) (status : ℕ) : Type 0 where
  pub memory : kind ≡ OutOfMemory → (new ≡ old) × (status ≡ 9)
  pub text : kind ≢ OutOfMemory → (new.out ≡ old.out) × Closes old.trace new.trace [] unread_line 2 status
