-- Ranges that frames may have, and what lies apart from them.
use Rattle.std.specs.Prelude.{◌≡◌, ℕ, ◌+◌, ◌%◌, ◌<◌, ◌≤◌, ◌⊎◌, List, [], ◌∷◌, length}
use Rattle.big_memory.specs.Memory.{Memory, floor_of}
use Rattle.switch_frame.specs.Records.{Record}

-- each record's range lies apart from the n bytes at a
abbrev pub Apart : ℕ → ℕ → List Record → Type 0
Apart a n [] = Unit {0}
Apart a n (r ∷ rs) = ((r.hi ≤ a) ⊎ (a + n ≤ r.lo)) × Apart a n rs

-- each record's range begins at or above an address
abbrev pub Above : ℕ → List Record → Type 0
Above a [] = Unit {0}
Above a (r ∷ rs) = (a ≤ r.lo) × Above a rs

-- a range that a frame may have
pub record IsFrameRange (m : Memory) (lo hi : ℕ) : Type 0 where
  pub first : lo % 16 ≡ 0
  pub last : hi % 16 ≡ 0
  pub stack : floor_of m ≤ lo
  pub order : lo < hi
  pub small : hi ≤ lo + 192
  pub within : hi ≤ length m.bytes
