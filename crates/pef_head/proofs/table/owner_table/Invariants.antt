use Rattle.std.proofs.Common.{◌≡◌, length}
use Rattle.pef_head.specs.inner.Owners.{HasOwners}
use Rattle.pef_head.proofs.table.owner_table.Given as goal

abbrev pub invariant-loop-j : goal.invariant-loop-j
invariant-loop-j l = record {
  filled : HasOwners l.bytes l.l l.j l.table.items;
  room : length l.table.items ≡ l.l.symbols;
}
