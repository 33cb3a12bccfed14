use Rattle.std.proofs.Common.{◌≡◌, length}
use Rattle.pef_head.specs.inner.Relocations.{HasHeadersFor}
use Rattle.pef_head.proofs.relocations.header_table.Given as goal

abbrev pub invariant-loop-h : goal.invariant-loop-h
invariant-loop-h l = record {
  noted : HasHeadersFor l.bytes l.l l.h l.table.items;
  len : length l.table.items ≡ l.sections;
}
