-- The segments of a fork and its jump table, line by line.
use Rattle.std.specs.Prelude.{ℕ, zero, suc, ◌+◌, ◌*◌, nat_lt, List, [], ◌∷◌, ◌++◌, length, codes, decimal, if◌then◌else◌, Bool, true, false, Option, Some, None, Result, Ok, Err}
use Rattle.mix_bits.specs.Text.{hexadecimal}
use Rattle.rsrc_fork.specs.Resources.{Resource}
use Rattle.rsrc_fork.specs.declared.error.RsrcError.{RsrcError}
use Rattle.switch_frame.specs.Program.{program_start}
use Rattle.mix_load.specs.Segments.{a5_of, code_at, entry_count, has_table, header_of, is_bad_entry, jump_target, offset_in, segment_at, segment_in, segment_place, segments_end, segments_start, table_start}
use Rattle.mix_load.specs.SegmentsClauses.{segment_places}
use Rattle.look_text.specs.Pieces.{address_text, joined}

-- `CODE ID: at ADDRESS, SIZE bytes`
unfoldable pub code_line : ℕ → ℕ → ℕ → List ℕ
code_line id place size = joined (codes "CODE " ∷ decimal id ∷ codes ": at " ∷ address_text place ∷ codes ", " ∷ decimal size ∷ codes " bytes\n" ∷ [])

abbrev pub segment_line : ℕ → ℕ → Option (List ℕ) → List ℕ
segment_line id place None = []
segment_line id place (Some code) = code_line id place (length code)

-- the segments below an id
abbrev pub segments_text : List Resource → ℕ → ℕ → List ℕ
segments_text resources start zero = []
segments_text resources start (suc id) = segments_text resources start id ++ segment_line id (segment_place resources start id) (segment_at resources id)

-- `entry I: at ADDRESS, $OFFSET(a5), CODE ID + $OFFSET`: where the entry's jump stands, which has its place in the world of
-- A5, and what it names
unfoldable pub entry_front : ℕ → ℕ → ℕ → ℕ → ℕ → List ℕ
entry_front i at offset segment inside =
    joined (codes "entry " ∷ decimal i ∷ codes ": at " ∷ address_text at ∷ codes ", $" ∷ hexadecimal 4 offset
    ∷ codes "(a5), CODE " ∷ decimal segment ∷ codes " + $" ∷ hexadecimal 4 inside ∷ [])

unfoldable pub target_text : Bool → ℕ → List ℕ
target_text true target = codes ", which is not there\n"
target_text false target = joined (codes ", to " ∷ hexadecimal 8 target ∷ codes "\n" ∷ [])

-- an entry, where the segments stand at these places
unfoldable pub entry_line : List Resource → List ℕ → List ℕ → ℕ → List ℕ
entry_line resources places code0 i =
    let h = header_of code0 in
    let offset = h.table_offset + 8 * i + 2 in
    entry_front i (a5_of h + offset) offset (segment_in code0 i) (offset_in code0 i)
    ++ target_text (is_bad_entry resources code0 i) (jump_target places code0 i)

-- the first entries
abbrev pub entries_text : List Resource → List ℕ → List ℕ → ℕ → List ℕ
entries_text resources places code0 zero = []
entries_text resources places code0 (suc i) = entries_text resources places code0 i ++ entry_line resources places code0 i

unfoldable pub a5_line : ℕ → List ℕ
a5_line a5 = joined (codes "A5: " ∷ address_text a5 ∷ codes "\n" ∷ [])

unfoldable pub table_line : ℕ → ℕ → List ℕ
table_line at count = joined (codes "jump table: at " ∷ address_text at ∷ codes ", " ∷ decimal count ∷ codes " entries\n" ∷ [])

-- the jump table, if CODE 0 has one, with the segments below a count of ids
abbrev pub table_text : List Resource → List ℕ → List ℕ → Bool → List ℕ
table_text resources places code0 false = []
table_text resources places code0 true =
    table_line (table_start (header_of code0)) (entry_count code0) ++ entries_text resources places code0 (entry_count code0)

-- a CODE 0 that has its longs
abbrev pub world_text : ℕ → List Resource → List ℕ → List ℕ
world_text ids resources code0 =
    let start = segments_start (header_of code0) in
    a5_line (a5_of (header_of code0)) ++ segments_text resources start ids
    ++ table_text resources (segment_places resources start ids) code0 (has_table code0)

-- without its longs the segments are placed as if there were no world of A5
abbrev pub codes_by : ℕ → List Resource → Option (List ℕ) → List ℕ
codes_by ids resources None = segments_text resources program_start ids
codes_by ids resources (Some code0) = if nat_lt (length code0) 16 then segments_text resources program_start ids else world_text ids resources code0

abbrev pub codes_end : ℕ → List Resource → Option (List ℕ) → ℕ
codes_end ids resources None = segments_end resources program_start ids
codes_end ids resources (Some code0) =
    if nat_lt (length code0) 16 then segments_end resources program_start ids else segments_end resources (segments_start (header_of code0)) ids

-- the CODEs of a fork, below a count of ids, and where they end; nothing of a fork that is refused
abbrev pub fork_text : ℕ → Result (List Resource) RsrcError → List ℕ
fork_text ids (Ok resources) = codes_by ids resources (code_at resources 0)
fork_text ids (Err e) = []

abbrev pub fork_end : ℕ → Result (List Resource) RsrcError → ℕ
fork_end ids (Ok resources) = codes_end ids resources (code_at resources 0)
fork_end ids (Err e) = program_start
