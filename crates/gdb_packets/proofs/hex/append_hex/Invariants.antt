use Rattle.std.proofs.Common.{◌≡◌, ◌++◌, drop}
use Rattle.std.specs.List.{flat_map}
use Rattle.gdb_packets.specs.Hex.{pair_of}
use Rattle.gdb_packets.proofs.hex.append_hex.Given as goal

-- what is there and the digits of what is left are those of all
abbrev pub invariant-loop-byte : goal.invariant-loop-byte
invariant-loop-byte l = l.buffer.items ++ flat_map pair_of (drop l.byte-index l.bytes) ≡ l.fn.buffer.items ++ flat_map pair_of l.bytes
