-- Bytes whose bits were written as text are given back (RFC 1741, of BinHex 4.0).
--
-- Three bytes are four symbols of six bits each, the highest bit first; behind the last byte its bits are filled up with
-- zeros.
use Rattle.std.specs.Prelude.{◌≡◌, ℕ, ◌+◌, ◌*◌, ◌/◌, ◌%◌, ◌<◌, List, [], ◌∷◌, map, slice_index}
use Rattle.binhex.specs.Packing.{bytes_of}
use Rattle.binhex.specs.Text.{alphabet, symbols_of}

-- the numbers of the symbols for bytes
abbrev pub sixths : List ℕ → List ℕ
sixths [] = []
sixths (a ∷ []) = (a / 4) ∷ ((a % 4 * 16) ∷ [])
sixths (a ∷ (b ∷ [])) = (a / 4) ∷ ((a % 4 * 16 + b / 16) ∷ ((b % 16 * 4) ∷ []))
sixths (a ∷ (b ∷ (c ∷ bytes))) = (a / 4) ∷ ((a % 4 * 16 + b / 16) ∷ ((b % 16 * 4 + c / 64) ∷ ((c % 64) ∷ sixths bytes)))

-- the symbols themselves
abbrev pub text_for : List ℕ → List ℕ
text_for bytes = map (λ number. slice_index alphabet number) (sixths bytes)

abbrev pub AreBytes : List ℕ → Type 0
AreBytes [] = Unit {0}
AreBytes (byte ∷ bytes) = (byte < 256) × AreBytes bytes

abbrev pub GivesBackText : Type 0
GivesBackText = (bytes : List ℕ) → AreBytes bytes → bytes_of (symbols_of (text_for bytes)) ≡ bytes
