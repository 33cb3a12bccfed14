use Rattle.std.proofs.Common.{◌≡◌, None}
use Rattle.pef_head.specs.inner.Refusals.{is_nameless_symbol}
use Rattle.mix_bits.specs.Search.{least}
use Rattle.pef_head.proofs.names.nameless_symbol.Given as goal

abbrev pub invariant-loop-i : goal.invariant-loop-i
invariant-loop-i l = least (is_nameless_symbol l.bytes l.l) l.i ≡ None
