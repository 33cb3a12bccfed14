-- What takes and fetches tell.
use Rattle.std.specs.Prelude.{◌≡◌, ℕ, ◌<◌, ◌≤◌, List, [], ◌∷◌, length, Option, Some, None, Result, Ok, Err, ⊤, Vec}
use Rattle.std.specs.Io.KnownBytes.{Consumes, IsAtEnd, Keeps}
use Rattle.mix_io.specs.declared.errors.FetchError.{FetchError}
use Rattle.mix_io.specs.declared.errors.FetchError.TheVariants.{NoMemory, Failed, TooLong}

-- the first byte that was left; the end only where none was left, and it tells that from then on; a failure takes none
abbrev pub Takes : {E : Type 0} → Option (List ℕ) → Option (List ℕ) → Result (Option ℕ) E → Type 0
Takes old new (Ok (Some byte)) = Consumes old new (byte ∷ [])
Takes old new (Ok None) = IsAtEnd old × (new ≡ Some [])
Takes old new (Err e) = Keeps old new

-- the answer for a file that is told, or told not to be there; whether a failure is due is for the count to say
abbrev pub FetchesFile : {A : Type 0} → Option (List ℕ) → ℕ → Result (Vec ℕ A) FetchError → Type 0
FetchesFile (Some bytes) limit (Ok v) = (v.items ≡ bytes) × (length bytes ≤ limit)
FetchesFile (Some bytes) limit (Err NoMemory) = length bytes ≤ limit
FetchesFile (Some bytes) limit (Err Failed) = ⊤
FetchesFile (Some bytes) limit (Err (TooLong n)) = (n ≡ limit) × (limit < length bytes)
FetchesFile None limit (Ok v) = ⊥
FetchesFile None limit (Err NoMemory) = ⊤
FetchesFile None limit (Err Failed) = ⊤
FetchesFile None limit (Err (TooLong n)) = ⊥

-- where no file is told, a file that is too long is still said with the caller's limit
abbrev pub NamesLimit : {V : Type 0} → ℕ → Result V FetchError → Type 0
NamesLimit limit (Ok v) = ⊤
NamesLimit limit (Err NoMemory) = ⊤
NamesLimit limit (Err Failed) = ⊤
NamesLimit limit (Err (TooLong n)) = n ≡ limit

-- the answer for the file of a name, where the files are told
abbrev pub Fetches : {A : Type 0} → Option (List ℕ → Option (List ℕ)) → List ℕ → ℕ → Result (Vec ℕ A) FetchError → Type 0
Fetches None name limit result = NamesLimit limit result
Fetches (Some held) name limit result = FetchesFile (held name) limit result
