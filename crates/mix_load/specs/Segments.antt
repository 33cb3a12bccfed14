-- The CODE resources of a 68K program (Inside Macintosh: Processes, "Segment Manager"; Inside Macintosh, volume II, "The
-- Segment Loader"; More Macintosh Toolbox has the resource fork). Where they are placed and what is refused is this
-- project's own.
--
-- CODE 0 begins with four longs: the size of the world above A5 and of that below it, the length of the jump
-- table, and its offset from A5. The table's entries follow, of four words each: an offset, $3F3C, the
-- number of a segment, and $A9F0. The segments are the CODEs above 0, each with a header of 4 bytes.
use Rattle.std.specs.Prelude.{ℕ, zero, suc, ◌+◌, ◌*◌, ◌/◌, ◌%◌, ◌^◌, slice_index, pos, Bool, false, not, ◌==◌, ◌&&◌, ◌||◌, nat_lt, nat_le, if◌then◌else◌, List, [], ◌∷◌, length, Option, Some, None}
use Rattle.mix_bits.specs.Fields.{word_at, long_at}
use Rattle.rsrc_fork.specs.Resources.{Resource, bytes_of, named}
use Rattle.switch_frame.specs.Pieces.{Piece, piece, long_piece}
use Rattle.switch_frame.specs.Program.{program_start}
use Rattle.mix_load.specs.declared.header.CodeHeader.{CodeHeader}
use Rattle.mix_bits.specs.Multiples.{rounded_up}

-- 'CODE'
abbrev pub code_kind : ℕ
code_kind = 0x434F_4445

-- the CODE with this id, which is not negative
abbrev pub code_at : List Resource → ℕ → Option (List ℕ)
code_at resources id = bytes_of resources (named code_kind (pos id))

-- the segment with this number, a word: as a signed id it is above 0
abbrev pub segment_at : List Resource → ℕ → Option (List ℕ)
segment_at resources id = if id == 0 || nat_le 32768 id then None else code_at resources id

-- so many ids are not negative
unfoldable pub id_count : ℕ
id_count = 32768

-- what CODE 0 says
abbrev pub header_of : List ℕ → CodeHeader
header_of code0 =
    record {
      above = long_at code0 0;
      below = long_at code0 4;
      table_len = long_at code0 8;
      table_offset = long_at code0 12;
    }

-- where A5 points: behind what is below it
abbrev pub a5_of : CodeHeader → ℕ
a5_of h = program_start + rounded_up 16 h.below

-- where the segments begin: behind what is above A5
abbrev pub segments_start : CodeHeader → ℕ
segments_start h = a5_of h + rounded_up 16 h.above

abbrev pub table_start : CodeHeader → ℕ
table_start h = a5_of h + h.table_offset

-- the segments below an id, in order of their ids, each at a multiple of 16: where they end
abbrev pub with_segment : ℕ → Option (List ℕ) → ℕ
with_segment end None = end
with_segment end (Some segment) = rounded_up 16 end + length segment

abbrev pub segments_end : List Resource → ℕ → ℕ → ℕ
segments_end resources start zero = start
segments_end resources start (suc id) = with_segment (segments_end resources start id) (segment_at resources id)

-- where a segment stands
abbrev pub segment_place : List Resource → ℕ → ℕ → ℕ
segment_place resources start id = rounded_up 16 (segments_end resources start id)

-- the segments below an id as pieces
abbrev pub added_segment : ℕ → Option (List ℕ) → List Piece → List Piece
added_segment place None pieces = pieces
added_segment place (Some segment) pieces = piece place segment ∷ pieces

abbrev pub segment_pieces : List Resource → ℕ → ℕ → List Piece
segment_pieces resources start zero = []
segment_pieces resources start (suc id) =
    added_segment (segment_place resources start id) (segment_at resources id) (segment_pieces resources start id)

-- a segment of the far model, whose header begins with $FFFF
abbrev pub is_far_code : List ℕ → Bool
is_far_code segment = nat_le 4 (length segment) && word_at segment 0 == 0xFFFF

-- a segment without a whole header
abbrev pub is_short_code : List ℕ → Bool
is_short_code segment = nat_lt (length segment) 4

-- CODE 0 has its four longs and a table of whole entries, which lies in the world above A5
abbrev pub has_table : List ℕ → Bool
has_table code0 =
    let h = header_of code0 in
    nat_le 16 (length code0) && nat_lt 0 h.table_len && h.table_len % 8 == 0
    && nat_le (16 + h.table_len) (length code0) && nat_le (h.table_offset + h.table_len) h.above

abbrev pub entry_count : List ℕ → ℕ
entry_count code0 = (header_of code0).table_len / 8

-- the place of an entry in CODE 0, and its fields
abbrev pub entry_place : ℕ → ℕ
entry_place i = 16 + 8 * i

abbrev pub offset_in : List ℕ → ℕ → ℕ
offset_in code0 i = word_at code0 (entry_place i)

abbrev pub segment_in : List ℕ → ℕ → ℕ
segment_in code0 i = word_at code0 (entry_place i + 4)

-- the words of an entry whose segment is not loaded
abbrev pub is_unloaded : List ℕ → ℕ → Bool
is_unloaded code0 i = word_at code0 (entry_place i + 2) == 0x3F3C && word_at code0 (entry_place i + 6) == 0xA9F0

-- an offset behind a segment's header reaches into the segment or to its end
abbrev pub reaches : ℕ → Option (List ℕ) → Bool
reaches offset None = false
reaches offset (Some segment) = nat_le (4 + offset) (length segment)

abbrev pub is_bad_entry : List Resource → List ℕ → ℕ → Bool
is_bad_entry resources code0 i =
    not (is_unloaded code0 i && reaches (offset_in code0 i) (segment_at resources (segment_in code0 i)))

-- where an entry jumps to, once its segment is loaded
abbrev pub jump_target : List ℕ → List ℕ → ℕ → ℕ
jump_target places code0 i = (slice_index places (segment_in code0 i) + 4 + offset_in code0 i) % 2 ^ 32

-- the first entries of the table, with their segments at these places: each has the segment's number, a jump, and
-- its target
abbrev pub table_pieces : List ℕ → ℕ → List ℕ → ℕ → List Piece
table_pieces places table code0 zero = []
table_pieces places table code0 (suc i) =
    long_piece (table + 8 * i + 4) (jump_target places code0 i)
    ∷ long_piece (table + 8 * i) (segment_in code0 i * 65536 + 0x4EF9)
    ∷ table_pieces places table code0 i
