use Rattle.std.proofs.Common.{◌≡◌, length}
use Rattle.switch_frame.specs.Program.{vectors}
use Rattle.mix_load.specs.Pieces.{with_pieces}
use Rattle.mix_load.proofs.gate.put_vectors.Given as goal

abbrev pub invariant-loop-k : goal.invariant-loop-k
invariant-loop-k l = record {
  memory : l.ram ≡ with_pieces (vectors l.k) l.initial.ram;
  len : length l.ram.bytes ≡ length l.initial.ram.bytes;
}
