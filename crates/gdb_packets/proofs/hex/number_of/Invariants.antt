use Rattle.std.proofs.Common.{◌≡◌, drop, Some}
use Rattle.gdb_packets.specs.Hex.{number_from}
use Rattle.gdb_packets.proofs.hex.number_of.Given as goal

-- the digits behind the number so far make what all digits make
abbrev pub invariant-loop-digit : goal.invariant-loop-digit
invariant-loop-digit l = number_from (Some l.number) (drop l.digit-index l.text) ≡ number_from (Some 0) l.text
