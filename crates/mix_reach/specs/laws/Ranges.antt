-- Ranges of bytes outside of which none changes.
use Rattle.std.specs.Prelude.{◌≡◌, ◌⊎◌, ℕ, ◌+◌, ◌<◌, ◌≤◌, List, length, slice_index}
use Rattle.mix_reach.specs.declared.reach.Reach.{Reach}
use Rattle.mix_reach.specs.declared.reach.Stores.{Stores}

-- the n bytes at an address, and none
abbrev pub range : ℕ → ℕ → Reach
range a n = record { low = a; high = a + n }

abbrev pub nothing : Reach
nothing = record { low = 0; high = 0 }

-- a step stores in a range, and in no block that it makes; or in so many bytes of a block that it makes
abbrev pub plain : Reach → Stores
plain w = record { reach = w; filled = 0 }

abbrev pub filling : ℕ → Stores
filling n = record { reach = nothing; filled = n }

-- as many bytes, of which those outside a range are the same
pub record Beside (w : Reach) (old new : List ℕ) : Type 0 where
  pub long : length new ≡ length old
  pub same : (k : ℕ) → (k < w.low) ⊎ (w.high ≤ k) → slice_index new k ≡ slice_index old k
