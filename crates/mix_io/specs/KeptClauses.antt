-- A piece that is kept whole, or a front of it at a failure.
use Rattle.std.specs.Prelude.{ℕ, ◌≤◌, List, length, take, Option, Result, Ok, Err}
use Rattle.mix_io.specs.declared.errors.Failed.{Failed}
use Rattle.mix_io.specs.Kept.{KeepsMore}

-- the whole piece is kept, or, at a failure, some front of it
abbrev pub Saves : Option (List ℕ → List ℕ) → Option (List ℕ → List ℕ) → List ℕ → List ℕ → Result (Unit {0}) Failed → Type 0
Saves old new name piece (Ok done) = KeepsMore old new name piece
Saves old new name piece (Err failed) = (k : ℕ) × (k ≤ length piece) × KeepsMore old new name (take k piece)
