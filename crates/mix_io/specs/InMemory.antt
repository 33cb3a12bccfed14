-- What the objects in memory answer and hold.
use Rattle.std.specs.Prelude.{ℕ, ◌-◌, Bool, true, not, ◌&&◌, ◌||◌, List, [], ◌∷◌, ◌++◌, length, take, drop, Option, Result, Ok, Err, is_none, is_some, unwrap_or, nat_le, nat_lt, slice_get, bytes_eq, if◌then◌else◌}
use Rattle.std.specs.List.{list_any}
use Rattle.mix_io.specs.NumberedCalls.{after_call, fails_next}
use Rattle.mix_io.specs.Calls.{counted_if}
use Rattle.mix_io.specs.declared.errors.Failed.{Failed}
use Rattle.mix_io.specs.Memory.{MemorySource, MemorySink, MemoryShelf, file_of, MemoryKeep}

abbrev pub taken : MemorySource → Result (Option ℕ) Failed
taken s = if fails_next s.calls then Err (record {}) else Ok (slice_get s.bytes 0)

abbrev pub after_take : MemorySource → MemorySource
after_take s =
    record {
      bytes = if fails_next s.calls then s.bytes else drop 1 s.bytes;
      calls = after_call s.calls;
      faults = counted_if (fails_next s.calls) s.faults;
    }

abbrev pub room_left : MemorySink → ℕ
room_left s = s.room - length s.bytes

-- a put fails at a numbered call, and where the piece exceeds the room that is left
abbrev pub takes_piece : MemorySink → List ℕ → Bool
takes_piece s piece = not (fails_next s.calls) && nat_le (length piece) (room_left s)

-- nothing at a numbered call, else what fits
abbrev pub kept_of : MemorySink → List ℕ → List ℕ
kept_of s piece = if fails_next s.calls then [] else take (room_left s) piece

abbrev pub after_put : MemorySink → List ℕ → MemorySink
after_put s piece =
    record {
      bytes = s.bytes ++ kept_of s piece;
      room = s.room;
      calls = after_call s.calls;
      faults = counted_if (not (takes_piece s piece)) s.faults;
    }

-- a fetch fails at a numbered call, and for a name that the shelf lacks
abbrev pub lacks : MemoryShelf → List ℕ → Bool
lacks s name = fails_next s.calls || is_none (file_of s name)

-- a file that is there exceeds the limit
abbrev pub exceeds : MemoryShelf → List ℕ → ℕ → Bool
exceeds s name limit = not (fails_next s.calls) && nat_lt limit (length (unwrap_or (file_of s name) []))

abbrev pub after_fetch : MemoryShelf → List ℕ → ℕ → MemoryShelf
after_fetch s name limit =
    record {
      names = s.names;
      files = s.files;
      calls = after_call s.calls;
      known_faults = counted_if (fails_next s.calls && is_some (file_of s name)) s.known_faults;
      other_faults = counted_if (is_none (file_of s name)) s.other_faults;
      excesses = counted_if (exceeds s name limit) s.excesses;
    }

-- no name stands twice
abbrev pub are_distinct : List (List ℕ) → Bool
are_distinct [] = true
are_distinct (name ∷ names) = not (list_any (bytes_eq name) names) && are_distinct names

-- a piece fails for another name, and where the sink fails
abbrev pub keeps_piece : MemoryKeep → List ℕ → List ℕ → Bool
keeps_piece s name piece = bytes_eq name s.name && takes_piece s.pieces piece

-- a sink that a call passed by
abbrev pub passed_by : MemorySink → MemorySink
passed_by s = record s { calls = after_call s.calls }

abbrev pub after_keep : MemoryKeep → List ℕ → List ℕ → MemoryKeep
after_keep s name piece =
    record {
      name = s.name;
      pieces = if bytes_eq name s.name then after_put s.pieces piece else passed_by s.pieces;
      other_faults = counted_if (not (bytes_eq name s.name)) s.other_faults;
    }
