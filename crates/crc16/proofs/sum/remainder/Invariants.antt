-- The remainder of the bytes so far.
use Rattle.std.proofs.Common.{◌≡◌, take}
use Rattle.crc16.specs.Checksum.{remainder}
use Rattle.crc16.proofs.sum.remainder.Given as goal

abbrev pub invariant-loop-byte : goal.invariant-loop-byte
invariant-loop-byte l = l.sum ≡ remainder (take l.byte-index l.bytes)
