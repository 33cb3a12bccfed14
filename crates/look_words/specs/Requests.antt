-- The statuses of a program, a file or a machine that could not be had.
use Rattle.std.specs.Prelude.{◌≡◌, ◌⊎◌, ℕ, Bool, true, false, Result, Ok}
use Rattle.job_words.specs.declared.job.BadWord.{BadWord}
use Rattle.job_words.specs.declared.job.Command.{Command}
use Rattle.job_words.specs.declared.job.Command.TheVariants.{Run}

-- it was refused, or it could not be read, or there was no memory
abbrev pub IsLost : ℕ → Type 0
IsLost status = (status ≡ 3) ⊎ ((status ≡ 4) ⊎ (status ≡ 9))

-- whether mixedrun's words ask for a run
abbrev pub is_run : Result Command BadWord → Bool
is_run (Ok (Run job)) = true
is_run words = false

-- the status where nothing came of words that ask for a run, or ask for none
abbrev pub IsUnmet : Bool → ℕ → Type 0
IsUnmet true status = IsLost status
IsUnmet false status = (status ≡ 2) ⊎ (status ≡ 9)
