-- Why mixedrun refuses words, by what mix_io says of the command with one word alone.
use Rattle.std.specs.Prelude.{ℕ, ◌==◌, Bool, false, List, [], ◌∷◌, Result, Ok, Err}
use Rattle.job_words.specs.declared.job.BadWord.{BadWord}
use Rattle.job_words.specs.declared.job.Command.{Command}
use Rattle.job_words.specs.Words.{command_of}

abbrev pub is_bad_at : ℕ → Result Command BadWord → Bool
is_bad_at place (Ok command) = false
is_bad_at place (Err bad) = bad.place == place

-- whether a word is refused as the first one behind a command
abbrev pub is_refused : List ℕ → List ℕ → Bool
is_refused command word = is_bad_at 1 (command_of (command ∷ (word ∷ [])))
