-- What a command line asks for.
use Rattle.std.specs.Prelude.{ℕ, ◌+◌, List, [], ◌∷◌, length, Result, Ok, Err}
use Rattle.std.specs.Option.{ok_or, option_and_then}
use Rattle.mix_bits.specs.Results.{◌>>=◌}
use Rattle.job_words.specs.Settings.{verb_of, setting_of}
use Rattle.job_words.specs.Drafts.{nothing, with_setting, made}
use Rattle.job_words.specs.declared.job.BadWord.{BadWord}
use Rattle.job_words.specs.declared.job.Command.{Command}
use Rattle.job_words.specs.declared.draft.Draft.{Draft}
use Rattle.job_words.specs.declared.setting.Verb.{Verb}

abbrev pub bad_at : ℕ → BadWord
bad_at place = record { place = place }

-- the draft with what a word sets
abbrev pub with_word : Verb → ℕ → List ℕ → Draft → Result Draft BadWord
with_word verb place word draft = ok_or (option_and_then (with_setting draft place) (setting_of verb word)) (bad_at place)

-- the draft after all words from a place on, or the place of the first bad one
abbrev pub draft_of : Verb → ℕ → List (List ℕ) → Draft → Result Draft BadWord
draft_of verb place [] draft = Ok draft
draft_of verb place (word ∷ words) draft = with_word verb place word draft >>= draft_of verb (place + 1) words

-- the command by the words behind its name; where something is missing, the place is the number of words
abbrev pub command_by : Verb → List (List ℕ) → Result Command BadWord
command_by verb words = draft_of verb 1 words nothing >>= (λ draft. ok_or (made verb draft) (bad_at (1 + length words)))

-- the command, or the place of the first bad word
abbrev pub command_of : List (List ℕ) → Result Command BadWord
command_of [] = Err (bad_at 0)
command_of (command ∷ words) = ok_or (verb_of command) (bad_at 0) >>= (λ verb. command_by verb words)
