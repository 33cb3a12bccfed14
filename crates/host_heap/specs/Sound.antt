-- What holds of every heap.
use Rattle.std.specs.Prelude.{◌≡◌, ◌+◌, ◌%◌, ◌≤◌, length, All, AllPairs}
use Rattle.host_heap.specs.declared.block.Block.{Block}
use Rattle.host_heap.specs.Space.{Space, block_limit}

abbrev pub IsInside : Space → Block → Type 0
IsInside s b = (s.low ≤ b.address) × (b.address + b.size ≤ s.high)

abbrev pub IsAligned : Block → Type 0
IsAligned b = (b.address % 8 ≡ 0) × (b.size % 8 ≡ 0) × (8 ≤ b.size)

abbrev pub EndsBefore : Block → Block → Type 0
EndsBefore first second = first.address + first.size ≤ second.address

pub record IsSound (s : Space) : Type 0 where
  pub low : s.low % 16 ≡ 0
  pub high : s.high % 16 ≡ 0
  pub order : s.low ≤ s.high
  pub inside : All (IsInside s) s.blocks
  pub aligned : All IsAligned s.blocks
  pub apart : AllPairs EndsBefore s.blocks
  pub count : length s.blocks ≤ block_limit
