-- What stands where in memory: pieces, put one after the other.
use Rattle.std.specs.Prelude.{ℕ, List, [], ◌∷◌}
use Rattle.byteorder.specs.Endian.{big_bytes}
use Rattle.big_memory.specs.Lists.{put}

-- bytes, and the address of the first of them
pub record Piece : Type 0 where
  pub at : ℕ
  pub bytes : List ℕ

abbrev pub piece : ℕ → List ℕ → Piece
piece at bytes = record { at = at; bytes = bytes }

-- a big-endian long
abbrev pub long_piece : ℕ → ℕ → Piece
long_piece at value = piece at (big_bytes 4 value)

-- bytes with these pieces put into them, the last one first
abbrev pub puts : List Piece → List ℕ → List ℕ
puts [] bytes = bytes
puts (p ∷ ps) bytes = put p.at p.bytes (puts ps bytes)
