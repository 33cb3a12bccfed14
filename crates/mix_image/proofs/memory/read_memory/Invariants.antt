use Rattle.std.proofs.Common.{◌+◌, ◌*◌, ◌≤◌}
use Rattle.mix_image.proofs.Filling.{IsReadTo}
use Rattle.mix_image.proofs.memory.read_memory.Given as goal

abbrev pub invariant-pages : goal.invariant-pages
invariant-pages l = record {
  read : IsReadTo l.bytes l.at l.kib l.k l.end l.ram;
  near : l.end ≤ l.at + 1025 * l.k;
}
