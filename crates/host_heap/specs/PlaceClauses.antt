-- What `get` answers, and which block has a number.
use Rattle.std.specs.Prelude.{◌≡◌, ℕ, ◌<◌, ◌≤◌, ◌⊎◌, Option, Some, None, List, length}
use Rattle.std.specs.List.{slice_get}
use Rattle.host_heap.specs.declared.block.Block.{Block}
use Rattle.host_heap.specs.Space.{Space, block_limit, rounded}
use Rattle.host_heap.specs.SpaceClauses.{IsLowest, HasNone}

-- what `get` may answer: the lowest address with room, and None exactly where no block more may stand or no address has room
abbrev pub IsPlace : Space → ℕ → Option ℕ → Type 0
IsPlace s size None = (block_limit ≤ length s.blocks) ⊎ HasNone s (rounded size)
IsPlace s size (Some address) = (length s.blocks < block_limit) × IsLowest s (rounded size) address

-- an address and a size are those of block k
abbrev pub IsBlockAt : List Block → ℕ → ℕ × ℕ → Type 0
IsBlockAt blocks k is = (b : Block) × (slice_get blocks k ≡ Some b) × (is ≡ (b.address, b.size))
