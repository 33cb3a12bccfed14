use Rattle.std.proofs.Common.{◌≡◌, None}
use Rattle.pef_head.specs.inner.Refusals.{leaves_symbols}
use Rattle.mix_bits.specs.Search.{least}
use Rattle.pef_head.proofs.places.bad_library.Given as goal

abbrev pub invariant-loop-j : goal.invariant-loop-j
invariant-loop-j l = least (leaves_symbols l.bytes l.l) l.j ≡ None
