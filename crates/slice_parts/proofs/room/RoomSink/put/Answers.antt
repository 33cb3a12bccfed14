use Rattle.std.proofs.Common.{◌-◌, arith, rules}
use Rattle.slice_parts.proofs.room.RoomSink.put.Goals as goal

-- what fits is the room that is left
pub returns-then-piece-left-clause-bytes : goal.returns-then-piece-left-clause-bytes
returns-then-piece-left-clause-bytes c = (c.self.inside.room - c.len.result, omega arith, search rules)
