-- The debugger: a machine, the steps of it that can be taken back, and the addresses at which it is to stop.
use Rattle.std.specs.Prelude.{ℕ}
use Rattle.mix_debug.specs.declared.past.TheConstants.{ROOM}

-- how many bytes of history are kept
abbrev pub history_room : ℕ
history_room = ROOM
