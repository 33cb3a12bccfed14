-- What is read next, where something was read.
use Rattle.std.specs.Prelude.{ℕ, List, Option, Some, None}
use Rattle.pef_reloc.specs.Reads.{Read}

infixl 30 ◌>>=◌
-- what follows, where something was read
abbrev pub ◌>>=◌ : {A B : Type 0} → Option (Read A) → (A → List ℕ → Option B) → Option B
None >>= next = None
Some read >>= next = next read.value read.rest
