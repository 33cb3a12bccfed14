-- The header of a fork, and where it says that the data and the map stand (More Macintosh Toolbox,
-- 'Resource Manager').
--
-- The header is four longs: the place of the data, the place of the map, the length of the data and the
-- length of the map. The map's last two words before its lists are the places of the type list and of
-- the name list, both counted from the map's start.
use Rattle.std.specs.Prelude.{ℕ, ◌+◌, ◌||◌, nat_lt, min, max, if◌then◌else◌, List, length, Result, Ok, Err}
use Rattle.rsrc_fork.specs.declared.error.RsrcError.{RsrcError}
use Rattle.rsrc_fork.specs.declared.error.RsrcError.TheVariants.{Short, Overlap, BadOffset}
use Rattle.rsrc_fork.specs.declared.header.Areas.{Areas}
use Rattle.mix_bits.specs.Fields.{word_at, long_at}

-- the areas as the header names them
abbrev pub areas_at : List ℕ → Areas
areas_at bytes =
    record {
      data_start = long_at bytes 0;
      data_end = long_at bytes 0 + long_at bytes 8;
      map_start = long_at bytes 4;
      map_end = long_at bytes 4 + long_at bytes 12;
    }

-- the areas, where they lie in the file, the map has its 28 bytes, and they share no byte
abbrev pub areas_of : List ℕ → Result Areas RsrcError
areas_of bytes =
    let areas = areas_at bytes in
    if nat_lt (length bytes) 16 then Err (Short (length bytes))
    else (if nat_lt (length bytes) areas.data_end || nat_lt (length bytes) areas.map_end || nat_lt (long_at bytes 12) 28
    then Err (BadOffset 0)
    else (if nat_lt (max areas.data_start areas.map_start) (min areas.data_end areas.map_end) then Err Overlap
    else Ok areas))

-- the place of the type list, where its count is in the map
abbrev pub list_of : List ℕ → Areas → Result ℕ RsrcError
list_of bytes areas =
    let list = areas.map_start + word_at bytes (areas.map_start + 24) in
    if nat_lt areas.map_end (list + 2) then Err (BadOffset (areas.map_start + 24)) else Ok list
