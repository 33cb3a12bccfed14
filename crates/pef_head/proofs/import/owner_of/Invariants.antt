use Rattle.std.proofs.Common.{◌≡◌, None}
use Rattle.pef_head.specs.Places.{holds}
use Rattle.mix_bits.specs.Search.{least}
use Rattle.pef_head.proofs.import.owner_of.Given as goal

abbrev pub invariant-loop-j : goal.invariant-loop-j
invariant-loop-j l = least (holds l.bytes l.l l.i) l.j ≡ None
