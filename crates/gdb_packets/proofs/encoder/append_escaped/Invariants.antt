use Rattle.std.proofs.Common.{◌≡◌, ◌++◌, drop}
use Rattle.std.specs.List.{flat_map}
use Rattle.gdb_packets.specs.Stream.{escaped_byte}
use Rattle.gdb_packets.proofs.encoder.append_escaped.Given as goal

-- what is there and what is left is all
abbrev pub invariant-loop-byte : goal.invariant-loop-byte
invariant-loop-byte l = l.buffer.items ++ flat_map escaped_byte (drop l.byte-index l.bytes) ≡ l.fn.buffer.items ++ flat_map escaped_byte l.bytes
