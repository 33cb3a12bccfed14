use Rattle.std.proofs.Common.{◌≡◌, ℕ, ◌+◌, ◌*◌, ◌<◌, get_or}
use Rattle.big_memory.specs.Numbers.{long_at}
use Rattle.mix_image.proofs.longs.read_longs.Given as goal

abbrev pub invariant-each : goal.invariant-each
invariant-each l = (k : ℕ) → k < l.k → get_or l.to k 0 ≡ long_at (l.at + 4 * k) l.bytes
