-- What the test of a place tells, and what the last block tells.
use Rattle.std.specs.Prelude.{◌≡◌, ℕ, ◌+◌, ◌%◌, ◌<◌, ◌≤◌, Bool, ◌==◌, ◌&&◌, nat_le, List, [], ◌∷◌, length}
use Rattle.host_heap.specs.declared.block.Block.{Block}
use Rattle.host_heap.specs.Space.{Space, block_limit}
use Rattle.host_heap.specs.SpaceClauses.{HasRoom}

-- the same as a fact
pub record CanPlace (s : Space) (size address : ℕ) : Type 0 where
  pub few : length s.blocks < block_limit
  pub whole : size % 8 ≡ 0
  pub least : 8 ≤ size
  pub even : address % 8 ≡ 0
  pub room : HasRoom s size address

-- where the last block ends, `low` without one
unfoldable pub last_end : ℕ → List Block → ℕ
last_end low [] = low
last_end low (b ∷ bs) = last_end (b.address + b.size) bs

-- whether a block of this size may stand at this address behind one that ends at `end`, and ends by `high`
abbrev pub may_follow : ℕ → ℕ → ℕ → ℕ → Bool
may_follow end high size address =
    size % 8 == 0 && (nat_le 8 size && (address % 8 == 0 && (nat_le end address && nat_le (address + size) high)))
