-- The remainder of the bytes so far.
use Rattle.std.proofs.Common.{◌≡◌, drop, take}
use Rattle.crc16.specs.Checksum.{remainder}
use Rattle.binhex.proofs.expanded.Expanded.checksum.Given as goal

abbrev pub invariant-loop : goal.invariant-loop
invariant-loop l = record { rest : l.rest ≡ drop l.counter l.initial.rest; sum : l.sum ≡ remainder (take l.counter l.initial.rest) }
