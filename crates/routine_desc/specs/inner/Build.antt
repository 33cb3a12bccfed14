-- Bytes that stand in memory, and nothing else changed.
use Rattle.std.specs.Prelude.{ℕ, ◌≡◌, ◌≤◌, ◌+◌, List, length}
use Rattle.big_memory.specs.Memory.{Memory, with_bytes}

-- the bytes stand in memory from an address on, and nothing else changed
pub record IsPut (old : Memory) (a : ℕ) (bytes : List ℕ) (new : Memory) : Type 0 where
  pub within : a + length bytes ≤ length old.bytes
  pub done : new ≡ with_bytes a bytes old
