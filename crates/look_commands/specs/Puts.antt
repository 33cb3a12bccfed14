-- What the output holds behind a text that was put, and the status.
use Rattle.std.specs.Prelude.{◌≡◌, ◌≤◌, ◌⊎◌, ℕ, List, length, take, Option}
use Rattle.std.specs.Io.KnownBytes.{Appends}

-- nothing is put, since there was no memory
abbrev pub LacksMemory : Option (List ℕ) → Option (List ℕ) → ℕ → Type 0
LacksMemory old new status = (status ≡ 9) × (new ≡ old)

-- a front of a text is put
abbrev pub PutsFront : List ℕ → Option (List ℕ) → Option (List ℕ) → Type 0
PutsFront text old new = (k : ℕ) × (k ≤ length text) × Appends old new (take k text)

-- a text is put, or a front of it where the output failed
abbrev pub Prints : List ℕ → Option (List ℕ) → Option (List ℕ) → ℕ → Type 0
Prints text old new status = ((status ≡ 0) × Appends old new text) ⊎ ((status ≡ 6) × PutsFront text old new)

-- the same unless there was no memory
abbrev pub Writes : List ℕ → Option (List ℕ) → Option (List ℕ) → ℕ → Type 0
Writes text old new status = Prints text old new status ⊎ LacksMemory old new status
