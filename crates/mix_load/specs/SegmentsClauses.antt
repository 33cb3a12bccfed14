-- The segments of a fork by their ids.
use Rattle.std.specs.Prelude.{ℕ, ◌+◌, Bool, false, List, is_some}
use Rattle.std.specs.Option.{option_map_or}
use Rattle.rsrc_fork.specs.Resources.{Resource}
use Rattle.mix_load.specs.declared.header.CodeHeader.{CodeHeader}
use Rattle.mix_load.specs.Pieces.{numbered}
use Rattle.mix_load.specs.Segments.{segment_at, table_start, segment_place, is_far_code, is_short_code}

-- where the program starts: behind the segment's number in the table's first entry
abbrev pub entry_of : CodeHeader → ℕ
entry_of h = table_start h + 2

abbrev pub is_segment : List Resource → ℕ → Bool
is_segment resources id = is_some (segment_at resources id)

abbrev pub is_far : List Resource → ℕ → Bool
is_far resources id = option_map_or is_far_code (segment_at resources id) false

abbrev pub is_short : List Resource → ℕ → Bool
is_short resources id = option_map_or is_short_code (segment_at resources id) false

-- where the segments below an id stand, or would
abbrev pub segment_places : List Resource → ℕ → ℕ → List ℕ
segment_places resources start ids = numbered (segment_place resources start) ids
