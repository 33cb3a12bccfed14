-- What a call does to the content that its object tells. An object that tells nothing is `None`.
use Rattle.std.specs.Prelude.{◌≡◌, ℕ, ◌≤◌, List, [], ◌∷◌, ◌++◌, length, take, Option, Some, None, Result, Ok, Err, ⊤}
use Rattle.std.specs.Io.KnownBytes.{Appends}

-- the whole piece is appended, or, at a failure, some front of it
abbrev pub Puts : {V E : Type 0} → Option (List ℕ) → Option (List ℕ) → List ℕ → Result V E → Type 0
Puts old new piece (Ok v) = Appends old new piece
Puts old new piece (Err e) = (k : ℕ) × (k ≤ length piece) × Appends old new (take k piece)

-- a conversation grows by a word and its answer, or is told no more from here on
abbrev pub Notes : Option (List (ℕ × Option ℕ)) → Option (List (ℕ × Option ℕ)) → ℕ → Option ℕ → Type 0
Notes None new word answer = new ≡ None
Notes (Some asks) None word answer = ⊤
Notes (Some asks) (Some more) word answer = more ≡ asks ++ (word, answer) ∷ []

-- the answer of a device, with none for a failure
abbrev pub Hears : {E : Type 0} → Option (List (ℕ × Option ℕ)) → Option (List (ℕ × Option ℕ)) → ℕ → Result ℕ E → Type 0
Hears old new word (Ok answer) = Notes old new word (Some answer)
Hears old new word (Err e) = Notes old new word None
