use Rattle.std.proofs.Common.{◌≡◌, None}
use Rattle.pef_head.specs.Refusals.{is_bad_relocation}
use Rattle.pef_head.specs.inner.Relocations.{Seen}
use Rattle.mix_bits.specs.Search.{least}
use Rattle.pef_head.proofs.relocations.bad_relocation.Given as goal

abbrev pub invariant-loop-h : goal.invariant-loop-h
invariant-loop-h l = record {
  seen : Seen l.bytes l.l l.h l.seen;
  none : least (is_bad_relocation l.bytes l.l) l.h ≡ None;
}
