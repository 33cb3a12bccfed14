-- What the output holds behind a fork of a file, and the status.
use Rattle.std.specs.Prelude.{◌≡◌, ◌+◌, ◌⊎◌, ℕ, ◌==◌, List, length, slice_range, Option, Result, Ok, Err}
use Rattle.std.specs.Bool.{MatchBool}
use Rattle.wrapped_forks.specs.Forks.{fork_of}
use Rattle.wrapped_forks.specs.declared.fork.Fork.{Fork}
use Rattle.wrapped_forks.specs.declared.fork.Fork.TheVariants.{Data, Resource}
use Rattle.wrapped_forks.specs.declared.wrapping.ForkError.{ForkError}
use Rattle.wrapped_forks.specs.declared.wrapping.ForkError.TheVariants.{Unknown}
use Rattle.wrapped_forks.specs.declared.wrapping.ForkPlace.{ForkPlace}
use Rattle.binhex.specs.Forks.{ForkBytes, forks_of}
use Rattle.binhex.specs.declared.error.BinHexError.{BinHexError}
use Rattle.look_words.specs.Requests.{IsLost}
use Rattle.look_commands.specs.Puts.{LacksMemory, Prints}

-- a fork that was text
abbrev pub encoded_fork : Fork → ForkBytes → List ℕ
encoded_fork Data forks = forks.data_fork
encoded_fork Resource forks = forks.resource_fork

-- nothing is put, since there is no such fork
abbrev pub RefusesFork : Option (List ℕ) → Option (List ℕ) → ℕ → Type 0
RefusesFork old new status = (status ≡ 3) × (new ≡ old)

-- a fork is put that has a byte, as far as the output goes
abbrev pub PutsFork : List ℕ → Option (List ℕ) → Option (List ℕ) → ℕ → Type 0
PutsFork fork old new status = MatchBool (length fork == 0) (RefusesFork old new status) (Prints fork old new status)

-- the fork of a file as text is put, if there is one, unless there was no memory
abbrev pub PutsRead : Fork → Result ForkBytes BinHexError → Option (List ℕ) → Option (List ℕ) → ℕ → Type 0
PutsRead which (Ok forks) old new status = PutsFork (encoded_fork which forks) old new status
PutsRead which (Err error) old new status = RefusesFork old new status

abbrev pub PutsEncoded : Fork → Result ForkBytes BinHexError → Option (List ℕ) → Option (List ℕ) → ℕ → Type 0
PutsEncoded which reading old new status = PutsRead which reading old new status ⊎ LacksMemory old new status

-- what is no file with such a fork, of which nothing else is known, can be one as text
abbrev pub PutsUnwrapped : List ℕ → Fork → ForkError → Option (List ℕ) → Option (List ℕ) → ℕ → Type 0
PutsUnwrapped bytes which Unknown old new status = PutsEncoded which (forks_of bytes) old new status
PutsUnwrapped bytes which error old new status = RefusesFork old new status

-- the fork that bytes are or wrap is put, as far as the output goes
abbrev pub PutsForkOf : List ℕ → Fork → Result ForkPlace ForkError → Option (List ℕ) → Option (List ℕ) → ℕ → Type 0
PutsForkOf bytes which (Ok fork) old new status = Prints (slice_range bytes fork.start (fork.start + fork.length)) old new status
PutsForkOf bytes which (Err error) old new status = PutsUnwrapped bytes which error old new status

-- the same of the bytes of a file, whatever they are, unless it was lost, and nothing is put
abbrev pub WritesFork : Fork → Option (List ℕ) → Option (List ℕ) → ℕ → Type 0
WritesFork which old new status =
    ((bytes : List ℕ) × PutsForkOf bytes which (fork_of bytes which) old new status) ⊎ (IsLost status × (new ≡ old))
