use Rattle.std.proofs.Common.{◌≡◌, length}
use Rattle.gdb_packets.specs.Hex.{said_behind}
use Rattle.gdb_packets.proofs.hex.append_said.Given as goal

-- what is left behind what is there makes what all make
abbrev pub invariant-loop-rest : goal.invariant-loop-rest
invariant-loop-rest l = said_behind l.buffer.items l.rest ≡ said_behind l.fn.buffer.items l.digits

abbrev pub decreases-loop-rest : goal.decreases-loop-rest
decreases-loop-rest l = length l.rest
