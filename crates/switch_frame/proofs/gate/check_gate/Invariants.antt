use Rattle.std.proofs.Common.{ℕ, ◌+◌, ◌*◌, ◌<◌, length}
use Rattle.big_memory.specs.Numbers.{long_at}
use Rattle.switch_frame.specs.Program.{Stands, gate_long}
use Rattle.switch_frame.proofs.gate.check_gate.Given as goal

abbrev pub invariant-longs : goal.invariant-longs
invariant-longs l =
    (k : ℕ) → k < l.k → Stands (gate_long l.a5 (length l.ram.bytes) (0x1000 + 4 * k)) (long_at (0x1000 + 4 * k) l.ram.bytes)
