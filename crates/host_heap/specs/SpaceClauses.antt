-- Room for a block, as a relation: inside the heap, and apart from every block; the lowest such place.
use Rattle.std.specs.Prelude.{ℕ, ◌+◌, ◌≤◌, ◌⊎◌, All}
use Rattle.host_heap.specs.declared.block.Block.{Block}
use Rattle.host_heap.specs.Space.{Space}

-- the bytes from the address on meet none of the block's
abbrev pub IsApart : ℕ → ℕ → Block → Type 0
IsApart size address block = (address + size ≤ block.address) ⊎ (block.address + block.size ≤ address)

-- the bytes from the address on lie in the heap and meet no block
pub record HasRoom (s : Space) (size address : ℕ) : Type 0 where
  pub above : s.low ≤ address
  pub below : address + size ≤ s.high
  pub apart : All (IsApart size address) s.blocks

pub record IsLowest (s : Space) (size address : ℕ) : Type 0 where
  pub room : HasRoom s size address
  pub least : (other : ℕ) → HasRoom s size other → address ≤ other

abbrev pub HasNone : Space → ℕ → Type 0
HasNone s size = (address : ℕ) → ¬ HasRoom s size address
