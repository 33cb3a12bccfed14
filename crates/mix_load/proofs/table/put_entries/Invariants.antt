use Rattle.std.proofs.Common.{◌≡◌, length}
use Rattle.mix_load.specs.Pieces.{with_pieces}
use Rattle.mix_load.specs.Segments.{table_pieces}
use Rattle.mix_load.proofs.table.put_entries.Given as goal

abbrev pub invariant-loop-i : goal.invariant-loop-i
invariant-loop-i l = record {
  memory : l.ram ≡ with_pieces (table_pieces l.places l.table l.code0 l.i) l.initial.ram;
  len : length l.ram.bytes ≡ length l.initial.ram.bytes;
}
