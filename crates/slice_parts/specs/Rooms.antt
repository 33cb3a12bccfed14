-- The sink and the keeper that stand for a buffer of a caller: what each holds, what a call answers and what it leaves.
use Rattle.std.specs.Prelude.{ℕ, ◌-◌, Bool, not, ◌&&◌, nat_le, List, [], ◌++◌, length, take, codes, bytes_eq, if◌then◌else◌}
use Rattle.mix_io.specs.Calls.{counted_if}

-- a sink: for how many bytes there is room, those that were put, and how many puts failed
pub record RoomHeld : Type 0 where
  pub room : ℕ
  pub bytes : List ℕ
  pub faults : ℕ

-- one with this room, to which nothing was put
abbrev pub empty_room : ℕ → RoomHeld
empty_room room = record { room = room; bytes = []; faults = 0 }

abbrev pub room_left : RoomHeld → ℕ
room_left s = s.room - length s.bytes

-- a put is done exactly where the piece fits into the room that is left
abbrev pub takes_piece : RoomHeld → List ℕ → Bool
takes_piece s piece = nat_le (length piece) (room_left s)

-- it leaves what fits, and one more fault where that is not all
abbrev pub after_put : RoomHeld → List ℕ → RoomHeld
after_put s piece =
    record {
      room = s.room;
      bytes = s.bytes ++ take (room_left s) piece;
      faults = counted_if (not (takes_piece s piece)) s.faults;
    }

-- a keeper of the name kept: a sink for its pieces, and how many pieces of other names failed
pub record RoomKept : Type 0 where
  pub pieces : RoomHeld
  pub other_faults : ℕ

-- one with this room, in which nothing is kept
abbrev pub empty_keep : ℕ → RoomKept
empty_keep room = record { pieces = empty_room room; other_faults = 0 }

abbrev pub faults_for : RoomKept → List ℕ → ℕ
faults_for s name = if bytes_eq name (codes "kept") then s.pieces.faults else s.other_faults

-- a piece is kept exactly where its name is kept and its sink takes it
abbrev pub keeps_piece : RoomKept → List ℕ → List ℕ → Bool
keeps_piece s name piece = bytes_eq name (codes "kept") && takes_piece s.pieces piece

abbrev pub after_keep : RoomKept → List ℕ → List ℕ → RoomKept
after_keep s name piece =
    record {
      pieces = if bytes_eq name (codes "kept") then after_put s.pieces piece else s.pieces;
      other_faults = counted_if (not (bytes_eq name (codes "kept"))) s.other_faults;
    }
