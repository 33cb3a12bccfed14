-- Bytes that were packed are given back, in whichever of the ways that the format has (RFC 1741, of BinHex 4.0).
use Rattle.std.specs.Prelude.{◌≡◌, ◌≢◌, ◌≤◌, ℕ, ◌++◌, List, [], ◌∷◌, length, replicate, Ok}
use Rattle.binhex.specs.Runs.{expanded, most}

-- bytes, and packed ones that stand for them: a byte stands for itself, but the byte $90 has a zero behind it; the last byte
-- is the first of a run if a mark and the length of the run stand behind it
pub data Packed : List ℕ → List ℕ → Type 0 where
  nothing : Packed [] []
  itself : (bytes packed : List ℕ) (byte : ℕ) → byte ≢ 0x90 → Packed bytes packed → Packed (bytes ++ byte ∷ []) (packed ++ byte ∷ [])
  marked : (bytes packed : List ℕ) → Packed bytes packed → Packed (bytes ++ 0x90 ∷ []) (packed ++ 0x90 ∷ 0 ∷ [])
  repeated : (bytes packed : List ℕ) (byte count : ℕ) → 1 ≤ count → Packed (bytes ++ byte ∷ []) packed
      → Packed (bytes ++ replicate count byte) (packed ++ 0x90 ∷ count ∷ [])

abbrev pub GivesBackPacked : Type 0
GivesBackPacked = (bytes packed : List ℕ) → Packed bytes packed → length bytes ≤ most → expanded packed ≡ Ok bytes
