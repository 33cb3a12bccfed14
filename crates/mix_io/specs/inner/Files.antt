-- What the reading of a file answers.
use Rattle.std.specs.Prelude.{◌≡◌, ◌≢◌, ℕ, ◌<◌, List, length, Result, Ok, Err, ⊤, Vec}
use Rattle.std.specs.declared.io.ErrorKind.{ErrorKind}
use Rattle.std.specs.declared.io.ErrorKind.TheVariants.{OutOfMemory}
use Rattle.mix_io.specs.declared.errors.FetchError.{FetchError}
use Rattle.mix_io.specs.declared.errors.FetchError.TheVariants.{NoMemory, Failed, TooLong}

-- want of memory stays what it is, and every other error is a failure
abbrev pub IsRefusal : ErrorKind → FetchError → Type 0
IsRefusal kind NoMemory = kind ≡ OutOfMemory
IsRefusal kind Failed = kind ≢ OutOfMemory
IsRefusal kind (TooLong limit) = ⊥

-- all of these bytes, or the refusal where they exceed the limit
abbrev pub ReadsWhole : {A : Type 0} → List ℕ → ℕ → Result (Vec ℕ A) FetchError → Type 0
ReadsWhole bytes limit (Ok v) = v.items ≡ bytes
ReadsWhole bytes limit (Err NoMemory) = ⊤
ReadsWhole bytes limit (Err Failed) = ⊤
ReadsWhole bytes limit (Err (TooLong n)) = limit < length bytes
