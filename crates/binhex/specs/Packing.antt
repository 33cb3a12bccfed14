-- The bytes in the bits of symbols, which stand for six bits each, the highest bit first (RFC 1741, of BinHex 4.0).
use Rattle.std.specs.Prelude.{ℕ, zero, suc, ◌+◌, ◌-◌, ◌*◌, ◌/◌, ◌%◌, ◌^◌, ◌++◌, List, [], ◌∷◌, length, slice_index}

-- the byte with a number: eight of the twelve bits of two symbols, the first of which has the number j + j / 3; its bits
-- begin behind as many pairs of bits as j leaves by 3
abbrev pub byte_at : List ℕ → ℕ → ℕ
byte_at symbols j =
    (slice_index symbols (j + j / 3) * 64 + slice_index symbols (j + j / 3 + 1)) / 4 ^ (2 - j % 3) % 256

-- the first bytes, so many
abbrev pub bytes_below : List ℕ → ℕ → List ℕ
bytes_below symbols zero = []
bytes_below symbols (suc j) = bytes_below symbols j ++ byte_at symbols j ∷ []

-- all bytes that are whole: four symbols have three
abbrev pub bytes_of : List ℕ → List ℕ
bytes_of symbols = bytes_below symbols (length symbols - (length symbols + 3) / 4)
