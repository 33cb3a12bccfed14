use Rattle.std.proofs.Common.{◌≡◌, None}
use Rattle.pef_head.specs.inner.Refusals.{is_nameless_library}
use Rattle.mix_bits.specs.Search.{least}
use Rattle.pef_head.proofs.names.nameless_library.Given as goal

abbrev pub invariant-loop-j : goal.invariant-loop-j
invariant-loop-j l = least (is_nameless_library l.bytes l.l) l.j ≡ None
