-- The heap as contracts see it: its bounds, and its blocks in order of address. Numbers are unbounded.
use Rattle.std.specs.Prelude.{ℕ, List, max}
use Rattle.mix_bits.specs.Multiples.{rounded_up}
use Rattle.host_heap.specs.declared.block.Block.{Block}

-- the addresses from low on, below high, and the blocks in them
pub record Space : Type 0 where
  pub low : ℕ
  pub high : ℕ
  pub blocks : List Block

-- how many blocks a heap holds at the most
abbrev pub block_limit : ℕ
block_limit = 4096

-- how many bytes a block takes that was asked for with this size: a multiple of 8, and at least 8
abbrev pub rounded : ℕ → ℕ
rounded size = max 8 (rounded_up 8 size)
