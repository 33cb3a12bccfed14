use Rattle.std.proofs.Common.{◌≡◌, length, None}
use Rattle.mix_load.specs.Pieces.{with_pieces}
use Rattle.mix_load.specs.Sections.{first_refusal}
use Rattle.mix_load.specs.inner.Sections.{relocated_pieces, relocs_refusal}
use Rattle.mix_load.proofs.relocations.relocate_first.Given as goal

abbrev pub invariant-loop-k : goal.invariant-loop-k
invariant-loop-k l = record {
  passed : first_refusal (relocs_refusal l.pef l.placement.start) l.k ≡ None;
  memory : l.ram ≡ with_pieces (relocated_pieces l.pef l.placement.start l.k) l.initial.ram;
  len : length l.ram.bytes ≡ length l.initial.ram.bytes;
}
