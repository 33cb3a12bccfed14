-- No space stands before.
use Rattle.std.proofs.Common.{◌≡◌, ◌+◌, drop}
use Rattle.mix_bits.specs.Names.{name_length}
use Rattle.mix_bits.proofs.names.name_length.Given as goal

abbrev pub invariant-loop-i : goal.invariant-loop-i
invariant-loop-i l = l.i + name_length (drop l.i l.line) ≡ name_length l.line
