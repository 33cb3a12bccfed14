-- The header and the forks in the bytes of a file (RFC 1741, of BinHex 4.0).
--
-- The header has a byte with the length of the name, the name, a byte with the version, two longs that say the kind of
-- file, a word of flags, and the lengths of both forks as longs. Behind the header and behind each fork stands its check
-- sum, a word.
use Rattle.std.specs.Prelude.{ℕ, ◌+◌, ◌==◌, nat_lt, if◌then◌else◌, List, codes, length, slice_index, slice_range, Option, Some, None}
use Rattle.crc16.specs.Checksum.{checksum_of}
use Rattle.mix_bits.specs.Fields.{word_at, long_at}
use Rattle.mix_bits.specs.SearchOperator.{◌or◌}
use Rattle.binhex.specs.declared.error.BinHexError.{BinHexError}
use Rattle.binhex.specs.declared.error.BinHexError.TheVariants.{Cut, Sum}
use Rattle.binhex.specs.declared.error.Part.{Part}
use Rattle.binhex.specs.declared.error.Part.TheVariants.{Header, DataFork, ResourceFork}

abbrev pub part_name : Part → List ℕ
part_name Header = codes "header"
part_name DataFork = codes "data fork"
part_name ResourceFork = codes "resource fork"

-- without its check sum
abbrev pub header_length : List ℕ → ℕ
header_length bytes = slice_index bytes 0 + 20

abbrev pub data_start : List ℕ → ℕ
data_start bytes = header_length bytes + 2

abbrev pub data_length : List ℕ → ℕ
data_length bytes = long_at bytes (slice_index bytes 0 + 12)

abbrev pub resource_start : List ℕ → ℕ
resource_start bytes = data_start bytes + data_length bytes + 2

abbrev pub resource_length : List ℕ → ℕ
resource_length bytes = long_at bytes (slice_index bytes 0 + 16)

-- why a part between two places is refused: it or its check sum is cut, or the check sum is another one
abbrev pub refusal_at : List ℕ → Part → ℕ → ℕ → Option BinHexError
refusal_at bytes part start end =
    if nat_lt (length bytes) (end + 2) then Some (Cut part)
    else (if checksum_of (slice_range bytes start end) == word_at bytes end then None else Some (Sum part))

abbrev pub forks_refusal : List ℕ → Option BinHexError
forks_refusal bytes =
    refusal_at bytes DataFork (data_start bytes) (data_start bytes + data_length bytes)
    or refusal_at bytes ResourceFork (resource_start bytes) (resource_start bytes + resource_length bytes)

-- why bytes are no file: the first that is wrong
abbrev pub refusal_of : List ℕ → Option BinHexError
refusal_of bytes =
    if length bytes == 0 then Some (Cut Header)
    else (refusal_at bytes Header 0 (header_length bytes) or forks_refusal bytes)
