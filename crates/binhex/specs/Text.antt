-- Where the text of a BinHex file stands, and which symbols it has (RFC 1741, of BinHex 4.0).
--
-- A line that begins with '(This file must be converted' stands before it; then a colon at the front of a
-- line opens it, and the next colon ends it. Spaces, tabs and the ends of lines say nothing.
use Rattle.std.specs.Prelude.{ℕ, ◌+◌, ◌-◌, ◌==◌, ◌&&◌, ◌||◌, not, Bool, List, codes, drop, take, length, slice_index, slice_range, Option, Some, None, is_none, Result, Ok, Err}
use Rattle.std.specs.List.{filter_map, position}
use Rattle.std.specs.Str.{bytes_eq}
use Rattle.mix_bits.specs.Search.{least}
use Rattle.binhex.specs.declared.error.BinHexError.{BinHexError}
use Rattle.binhex.specs.declared.error.BinHexError.TheVariants.{Unmarked, Unopened, Unended, Foreign}

-- the symbols by their numbers, from 0 to 63
abbrev pub alphabet : List ℕ
alphabet = codes "!\"#$%&'()*+,-012345689@ABCDEFGHIJKLMNPQRSTUVXYZ[`abcdefhijklmpqr"

abbrev pub symbol_of : ℕ → Option ℕ
symbol_of byte = position (λ symbol. symbol == byte) alphabet

abbrev pub symbols_of : List ℕ → List ℕ
symbols_of text = filter_map symbol_of text

abbrev pub is_line_end : ℕ → Bool
is_line_end byte = (byte == 13) || (byte == 10)

-- whether a byte has no place in the text
abbrev pub is_foreign : ℕ → Bool
is_foreign byte = is_none (symbol_of byte) && not (byte == 32) && not (byte == 9) && not (is_line_end byte)

-- whether the front of the line before the text stands at a place
abbrev pub is_marked : List ℕ → ℕ → Bool
is_marked bytes k = bytes_eq (slice_range bytes k (k + 28)) (codes "(This file must be converted")

-- whether a line ends at a place, and a colon begins the next one
abbrev pub is_opening : List ℕ → ℕ → Bool
is_opening rest k = is_line_end (slice_index rest k) && (slice_index rest (k + 1) == 58)

-- the text, where nothing in it is foreign; the first foreign byte is named by its place in the file
abbrev pub by_foreign : List ℕ → ℕ → Option ℕ → Result (List ℕ) BinHexError
by_foreign text place None = Ok text
by_foreign text place (Some k) = Err (Foreign (place + k))

abbrev pub known_text : List ℕ → ℕ → Result (List ℕ) BinHexError
known_text text place = by_foreign text place (position is_foreign text)

-- the text up to the colon that ends it
abbrev pub by_colon : List ℕ → ℕ → Option ℕ → Result (List ℕ) BinHexError
by_colon text place None = Err Unended
by_colon text place (Some n) = known_text (take n text) place

abbrev pub opened_text : List ℕ → ℕ → Result (List ℕ) BinHexError
opened_text text place = by_colon text place (position (λ byte. byte == 58) text)

-- the text behind the line that stands before it
abbrev pub by_opening : List ℕ → ℕ → Option ℕ → Result (List ℕ) BinHexError
by_opening rest place None = Err Unopened
by_opening rest place (Some k) = opened_text (drop (k + 2) rest) (place + (k + 2))

abbrev pub text_behind : List ℕ → ℕ → Result (List ℕ) BinHexError
text_behind rest place = by_opening rest place (least (is_opening rest) (length rest - 1))

abbrev pub by_mark : List ℕ → Option ℕ → Result (List ℕ) BinHexError
by_mark bytes None = Err Unmarked
by_mark bytes (Some k) = text_behind (drop (k + 28) bytes) (k + 28)

abbrev pub text_of : List ℕ → Result (List ℕ) BinHexError
text_of bytes = by_mark bytes (least (is_marked bytes) (length bytes - 27))
