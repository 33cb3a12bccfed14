use Rattle.std.proofs.Common.{◌≡◌, drop}
use Rattle.gdb_packets.specs.Hex.{shortened}
use Rattle.gdb_packets.proofs.number.without_zeros.Given as goal

-- all digits so far are zeros
abbrev pub invariant-loop-i : goal.invariant-loop-i
invariant-loop-i l = shortened (drop l.i l.digits) ≡ shortened l.digits
