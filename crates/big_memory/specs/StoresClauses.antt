-- What a store may change: bytes alone, and only those that no refusal covers.
use Rattle.std.specs.Prelude.{◌≡◌, ◌≢◌, ℕ, ◌<◌, length, slice_index, None}
use Rattle.big_memory.specs.Memory.{Memory, refusal}

-- memory in which only bytes have changed, and only those that a store may change
pub record OnlyFree (m n : Memory) : Type 0 where
  pub marks : n.marks ≡ m.marks
  pub long : length n.bytes ≡ length m.bytes
  pub kept : (a : ℕ) → a < length m.bytes → refusal m a 1 ≢ None → slice_index n.bytes a ≡ slice_index m.bytes a
