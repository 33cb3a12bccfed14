-- Causes of a fetch: failed, or too long.
use Rattle.std.specs.Prelude.{ℕ, Bool, true, false, List, Ok, Err, Result}
use Rattle.mix_io.specs.declared.errors.FetchError.{FetchError}
use Rattle.mix_io.specs.declared.errors.FetchError.TheVariants.{NoMemory, Failed, TooLong}
use Rattle.mix_io.specs.CountsClauses.{NamedCause}

-- whether a fetch failed, and not for want of memory or for a file that is too long
abbrev pub has_failed : {V : Type 0} → Result V FetchError → Bool
has_failed (Ok v) = false
has_failed (Err NoMemory) = false
has_failed (Err Failed) = true
has_failed (Err (TooLong limit)) = false

-- whether a file was too long
abbrev pub is_too_long : {V : Type 0} → Result V FetchError → Bool
is_too_long (Ok v) = false
is_too_long (Err NoMemory) = false
is_too_long (Err Failed) = false
is_too_long (Err (TooLong limit)) = true

abbrev pub FetchCause : {V : Type 0} → (List ℕ → ℕ) → (List ℕ → ℕ) → List ℕ → Result V FetchError → Type 0
FetchCause before now name result = NamedCause before now name (has_failed result)

abbrev pub ExcessCause : {V : Type 0} → (List ℕ → ℕ) → (List ℕ → ℕ) → List ℕ → Result V FetchError → Type 0
ExcessCause before now name result = NamedCause before now name (is_too_long result)
