use Rattle.big_memory.proofs.Numbers.{length_of_bytes}
use Rattle.switch_frame.proofs.Pieces.{length-zeros}
use Rattle.switch_frame.proofs.Guards.{stored-apart}
use Rattle.switch_frame.proofs.Linked.{frames_above}
use Rattle.switch_frame.proofs.Seen.{zeros_beside}
use Rattle.switch_frame.proofs.Ranges.{below_innermost, meets_none}
use Rattle.switch_frame.proofs.Places.{first_is_held, place_by_length, room_by_length, room_is_place, top_is_zero}
use Rattle.switch_frame.proofs.laws.frame_laws.Goals as goal

pub returns : goal.returns
returns c = record {
  none = top_is_zero;
  first = first_is_held;
  meets = meets_none;
  stored = stored-apart;
  below = below_innermost;
  above = frames_above;
  room = room_is_place;
  place_by_length = place_by_length;
  room_by_length = room_by_length;
  zeros = zeros_beside;
  length_zeros = length-zeros;
  length_bytes = length_of_bytes;
}
