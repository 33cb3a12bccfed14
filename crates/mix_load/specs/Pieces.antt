-- Pieces in memory.
use Rattle.std.specs.Prelude.{ℕ, zero, suc, List, [], ◌∷◌, ◌++◌}
use Rattle.big_memory.specs.Memory.{Memory}
use Rattle.switch_frame.specs.Pieces.{Piece, piece, puts}

-- memory with these pieces
abbrev pub with_pieces : List Piece → Memory → Memory
with_pieces pieces m = record m { bytes = puts pieces m.bytes }

-- a number for each of the first ones, and a piece for each
abbrev pub numbered : (ℕ → ℕ) → ℕ → List ℕ
numbered f zero = []
numbered f (suc k) = numbered f k ++ f k ∷ []

abbrev pub numbered_pieces : (ℕ → ℕ) → (ℕ → List ℕ) → ℕ → List Piece
numbered_pieces at bytes zero = []
numbered_pieces at bytes (suc k) = piece (at k) (bytes k) ∷ numbered_pieces at bytes k
