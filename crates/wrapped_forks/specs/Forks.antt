-- Where a fork lies in a file that is a raw resource fork or wraps forks (the sources are named in the crate's head).
use Rattle.std.specs.Prelude.{ℕ, zero, suc, ◌+◌, ◌*◌, ◌==◌, ◌&&◌, ◌||◌, not, max, min, nat_le, nat_lt, Bool, List, codes, length, slice_index, slice_range, if◌then◌else◌, Option, Some, None, Result, Ok, Err}
use Rattle.std.specs.List.{list_all}
use Rattle.std.specs.Option.{option_or}
use Rattle.mix_bits.specs.Multiples.{rounded_up}
use Rattle.mix_bits.specs.Fields.{word_at, long_at}
use Rattle.crc16.specs.Checksum.{checksum_of}
use Rattle.wrapped_forks.specs.declared.fork.Fork.{Fork}
use Rattle.wrapped_forks.specs.declared.fork.Fork.TheVariants.{Data, Resource}
use Rattle.wrapped_forks.specs.declared.wrapping.ForkPlace.{ForkPlace}
use Rattle.wrapped_forks.specs.declared.wrapping.ForkError.{ForkError}
use Rattle.wrapped_forks.specs.declared.wrapping.ForkError.TheVariants.{Unknown, Header, Version, Cut, Forkless}
use Rattle.wrapped_forks.specs.declared.wrapping.Wrapping.{Wrapping}
use Rattle.wrapped_forks.specs.declared.wrapping.Wrapping.TheVariants.{Raw, MacBinary, MacBinary2, MacBinary3, AppleSingle, AppleDouble}

-- what the files of a kind are called
abbrev pub wrapping_name : Wrapping → List ℕ
wrapping_name Raw = codes "a raw resource fork"
wrapping_name MacBinary = codes "MacBinary I"
wrapping_name MacBinary2 = codes "MacBinary II"
wrapping_name MacBinary3 = codes "MacBinary III"
wrapping_name AppleSingle = codes "AppleSingle"
wrapping_name AppleDouble = codes "AppleDouble"

abbrev pub fork_name : Fork → List ℕ
fork_name Data = codes "data fork"
fork_name Resource = codes "resource fork"

-- the fork of so many bytes from a place on, where it has some and they lie in the file
abbrev pub inside : List ℕ → Wrapping → Fork → ℕ → ℕ → Result ForkPlace ForkError
inside bytes wrapping fork start count =
    if count == 0 then Err (Forkless wrapping fork)
    else (if nat_lt (length bytes) (start + count) then Err (Cut wrapping)
    else Ok (record {
      wrapping = wrapping;
      start = start;
      length = count;
    }))

-- AppleSingle and AppleDouble: a magic number, a version, 16 bytes, the number of entries in a word, and for each entry
-- three longs: what it is (1 is a data fork, 2 a resource fork), its place and its length
abbrev pub apple_wrapping : ℕ → Option Wrapping
apple_wrapping magic = if magic == 0x51600 then Some AppleSingle else (if magic == 0x51607 then Some AppleDouble else None)

abbrev pub is_version : ℕ → Bool
is_version version = (version == 0x10000) || (version == 0x20000)

abbrev pub entry_place : ℕ → ℕ
entry_place k = 26 + 12 * k

abbrev pub entry_kind : Fork → ℕ
entry_kind Data = 1
entry_kind Resource = 2

abbrev pub is_fork : List ℕ → Fork → ℕ → Bool
is_fork bytes fork k = long_at bytes (entry_place k) == entry_kind fork

abbrev pub named : ℕ → Bool → Option ℕ
named k is = if is then Some k else None

-- the first entry of a fork, among so many
abbrev pub fork_entry : List ℕ → Fork → ℕ → Option ℕ
fork_entry bytes fork zero = None
fork_entry bytes fork (suc k) = option_or (fork_entry bytes fork k) (named k (is_fork bytes fork k))

abbrev pub at_entry : List ℕ → Wrapping → Fork → Option ℕ → Result ForkPlace ForkError
at_entry bytes wrapping fork None = Err (Forkless wrapping fork)
at_entry bytes wrapping fork (Some k) = inside bytes wrapping fork (long_at bytes (entry_place k + 4)) (long_at bytes (entry_place k + 8))

abbrev pub listed_fork : List ℕ → Wrapping → Fork → ℕ → Result ForkPlace ForkError
listed_fork bytes wrapping fork count = at_entry bytes wrapping fork (fork_entry bytes fork count)

abbrev pub apple_fork : List ℕ → Wrapping → Fork → Result ForkPlace ForkError
apple_fork bytes wrapping fork =
    if nat_lt (length bytes) 26 then Err (Cut wrapping)
    else (if not (is_version (long_at bytes 4)) then Err (Version wrapping)
    else (if nat_lt (length bytes) (entry_place (word_at bytes 24)) then Err (Cut wrapping)
    else listed_fork bytes wrapping fork (word_at bytes 24)))

-- MacBinary: bytes 0 and 74 are zero, and byte 1 is the length of a name
abbrev pub is_header : List ℕ → Bool
is_header bytes =
    nat_le 128 (length bytes) && (slice_index bytes 0 == 0) && (slice_index bytes 74 == 0)
    && nat_le 1 (slice_index bytes 1) && nat_le (slice_index bytes 1) 63

-- MacBinary II: the check sum of the bytes before it stands at 124
abbrev pub has_sum : List ℕ → Bool
has_sum bytes = word_at bytes 124 == checksum_of (slice_range bytes 0 124)

-- MacBinary I: byte 82 and those from 101 to 125 are zero, and no fork is longer than $7FFFFF
abbrev pub is_first : List ℕ → Bool
is_first bytes =
    (slice_index bytes 82 == 0) && list_all (λ byte. byte == 0) (slice_range bytes 101 126)
    && nat_le (long_at bytes 83) 0x7FFFFF && nat_le (long_at bytes 87) 0x7FFFFF

-- MacBinary III has `mBIN` at 102
abbrev pub level_of : List ℕ → Option Wrapping
level_of bytes =
    if long_at bytes 102 == 0x6D42494E then Some MacBinary3
    else (if has_sum bytes then Some MacBinary2
    else (if is_first bytes then Some MacBinary else None))

abbrev pub binary_wrapping : List ℕ → Option Wrapping
binary_wrapping bytes = if is_header bytes then level_of bytes else None

-- behind the header of 128 bytes stand a second header, whose length is at 120, and the data fork, whose length is at 83;
-- each is filled up to a multiple of 128. The length of the resource fork is at 87
abbrev pub binary_data : List ℕ → ℕ
binary_data bytes = 128 + rounded_up 128 (word_at bytes 120)

abbrev pub binary_fork : List ℕ → Wrapping → Fork → Result ForkPlace ForkError
binary_fork bytes wrapping Data = inside bytes wrapping Data (binary_data bytes) (long_at bytes 83)
binary_fork bytes wrapping Resource =
    inside bytes wrapping Resource (binary_data bytes + rounded_up 128 (long_at bytes 83)) (long_at bytes 87)

abbrev pub by_binary : List ℕ → Fork → Option Wrapping → Result ForkPlace ForkError
by_binary bytes fork (Some wrapping) = binary_fork bytes wrapping fork
by_binary bytes fork None = if is_header bytes then Err Header else Err Unknown

abbrev pub binary_or_refusal : List ℕ → Fork → Result ForkPlace ForkError
binary_or_refusal bytes fork = by_binary bytes fork (binary_wrapping bytes)

abbrev pub by_apple : List ℕ → Fork → Option Wrapping → Result ForkPlace ForkError
by_apple bytes fork (Some wrapping) = apple_fork bytes wrapping fork
by_apple bytes fork None = binary_or_refusal bytes fork

-- a fork of a file that is no raw one
abbrev pub wrapped_fork : List ℕ → Fork → Result ForkPlace ForkError
wrapped_fork bytes fork =
    if nat_lt (length bytes) 16 then Err Unknown else by_apple bytes fork (apple_wrapping (long_at bytes 0))

-- a raw fork: its header names the places and lengths of the data and the map, which lie in the file and share no byte,
-- and the map has at least 28 bytes (More Macintosh Toolbox, 'Resource Manager')
abbrev pub are_areas : List ℕ → Bool
are_areas bytes =
    let data_end = long_at bytes 0 + long_at bytes 8 in
    let map_end = long_at bytes 4 + long_at bytes 12 in
    nat_le data_end (length bytes) && nat_le map_end (length bytes) && nat_le 28 (long_at bytes 12)
    && not (nat_lt (max (long_at bytes 0) (long_at bytes 4)) (min data_end map_end))

abbrev pub is_raw : List ℕ → Bool
is_raw bytes = nat_le 16 (length bytes) && are_areas bytes

-- such a file is the resource fork
abbrev pub raw_fork : List ℕ → Fork → Result ForkPlace ForkError
raw_fork bytes Data = Err (Forkless Raw Data)
raw_fork bytes Resource =
    Ok (record {
      wrapping = Raw;
      start = 0;
      length = length bytes;
    })

-- a fork of a file, or why there is none: a raw fork goes before all that wraps one
unfoldable pub fork_of : List ℕ → Fork → Result ForkPlace ForkError
fork_of bytes fork = if is_raw bytes then raw_fork bytes fork else wrapped_fork bytes fork
