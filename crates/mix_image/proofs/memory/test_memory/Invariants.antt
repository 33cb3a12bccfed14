use Rattle.std.proofs.Common.{◌+◌, ◌*◌, ◌≤◌}
use Rattle.mix_image.proofs.Testing.{ArePagesTo}
use Rattle.mix_image.proofs.memory.test_memory.Given as goal

abbrev pub invariant-tested : goal.invariant-tested
invariant-tested l = record {
  pages : ArePagesTo l.bytes l.at l.k l.end;
  near : l.end ≤ l.at + 1025 * l.k;
}
