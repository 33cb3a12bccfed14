-- A container's header and its section headers, as Inside Macintosh: PowerPC System Software and Mac OS
-- Runtime Architectures lay them out. Places count from the file's first byte.
--
-- The header has 40 bytes: four characters each for 'Joy!', 'peff' and the architecture, a long with the
-- version, four longs that are not read, the count of the sections, the count of those that are
-- instantiated, and a long. Section headers of 28 bytes follow: longs for the name, the default address,
-- the total size, the unpacked size, the packed size and the place of the packed bytes, and then bytes
-- for the kind, the share, the alignment as an exponent of two, and 0.
use Rattle.std.specs.Prelude.{ℕ, ◌+◌, ◌*◌, Bool, ◌&&◌, ◌||◌, ◌==◌, not, nat_lt, List, slice_index, Option, length}
use Rattle.mix_bits.specs.Fields.{word_at, long_at}
use Rattle.mix_bits.specs.Search.{least}

abbrev pub section_count : List ℕ → ℕ
section_count bytes = word_at bytes 32

abbrev pub instantiated_count : List ℕ → ℕ
instantiated_count bytes = word_at bytes 34

-- the place of the section header with this number
abbrev pub section_header : ℕ → ℕ
section_header k = 40 + 28 * k

abbrev pub total_of : List ℕ → ℕ → ℕ
total_of bytes k = long_at bytes (section_header k + 8)

abbrev pub unpacked_of : List ℕ → ℕ → ℕ
unpacked_of bytes k = long_at bytes (section_header k + 12)

abbrev pub packed_of : List ℕ → ℕ → ℕ
packed_of bytes k = long_at bytes (section_header k + 16)

abbrev pub offset_of : List ℕ → ℕ → ℕ
offset_of bytes k = long_at bytes (section_header k + 20)

abbrev pub kind_of : List ℕ → ℕ → ℕ
kind_of bytes k = slice_index bytes (section_header k + 24)

abbrev pub exponent_of : List ℕ → ℕ → ℕ
exponent_of bytes k = slice_index bytes (section_header k + 26)

-- kind 2 is pattern data, whose packed bytes describe the unpacked ones
abbrev pub is_pattern : ℕ → Bool
is_pattern kind = kind == 2

-- it cannot be instantiated: it is the loader's, debug's or above executable data, or its header does not hold together
abbrev pub is_malformed : List ℕ → ℕ → Bool
is_malformed bytes k =
    kind_of bytes k == 4 || kind_of bytes k == 5 || nat_lt 6 (kind_of bytes k)
    || nat_lt 12 (exponent_of bytes k) || nat_lt (total_of bytes k) (unpacked_of bytes k)
    || (not (is_pattern (kind_of bytes k)) && not (packed_of bytes k == unpacked_of bytes k))

abbrev pub is_bad_section : List ℕ → ℕ → Bool
is_bad_section bytes k =
    nat_lt (length bytes) (offset_of bytes k + packed_of bytes k)
    || (nat_lt k (instantiated_count bytes) && is_malformed bytes k)

-- the number of the first loader section
abbrev pub loader_section : List ℕ → Option ℕ
loader_section bytes = least (λ k. kind_of bytes k == 4) (section_count bytes)
