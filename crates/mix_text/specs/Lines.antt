-- The lines of a text, and the address in front of a line (this project's own).
use Rattle.std.specs.Prelude.{ℕ, ◌==◌, ◌&&◌, nat_le, Bool, true, List, [], ◌∷◌, length, take, slice_index, if◌then◌else◌, Option, None}
use Rattle.mix_bits.specs.Numbers.{hexadecimal_number}

-- one byte more in front of the first line
abbrev pub with_byte : ℕ → List (List ℕ) → List (List ℕ)
with_byte byte [] = (byte ∷ []) ∷ []
with_byte byte (line ∷ lines) = (byte ∷ line) ∷ lines

-- each line ends with a line feed, which the last one may lack
abbrev pub lines_of : List ℕ → List (List ℕ)
lines_of [] = []
lines_of (byte ∷ text) = if byte == 10 then [] ∷ lines_of text else with_byte byte (lines_of text)

-- an empty line, and one that begins with a semicolon, give nothing
abbrev pub is_silent : List ℕ → Bool
is_silent line = if length line == 0 then true else slice_index line 0 == 59

-- a colon and a space stand behind eight bytes
abbrev pub has_colon : List ℕ → Bool
has_colon line = nat_le 10 (length line) && ((slice_index line 8 == 58) && (slice_index line 9 == 32))

-- the address in front of a line: eight upper-case hexadecimal digits before a colon and a space
abbrev pub address_in : List ℕ → Option ℕ
address_in line = if has_colon line then hexadecimal_number 8 (take 8 line) else None
