use Rattle.std.proofs.Common.{◌≡◌, None}
use Rattle.pef_head.specs.inner.Places.{is_for}
use Rattle.mix_bits.specs.Search.{least}
use Rattle.pef_head.proofs.relocations.header_for.Given as goal

abbrev pub invariant-loop-h : goal.invariant-loop-h
invariant-loop-h l = least (is_for l.bytes l.l l.k) l.h ≡ None
