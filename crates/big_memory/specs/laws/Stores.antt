-- Memories that differ in one range at most.
use Rattle.std.specs.Prelude.{◌≡◌, ◌⊎◌, ℕ, ◌<◌, ◌≤◌, length, slice_index}
use Rattle.big_memory.specs.Memory.{Memory}

-- memory that differs at most from `low` up to `high`
pub record IsSameBeside (low high : ℕ) (m n : Memory) : Type 0 where
  pub marks : n.marks ≡ m.marks
  pub long : length n.bytes ≡ length m.bytes
  pub bytes : (a : ℕ) → (a < low) ⊎ (high ≤ a) → slice_index n.bytes a ≡ slice_index m.bytes a
