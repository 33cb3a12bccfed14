-- Where a step stored, and what it did to the blocks, as they are told without a look at memory.
use Rattle.std.specs.Prelude.{◌≡◌, ℕ, List, length}
use Rattle.host_heap.specs.declared.block.Block.{Block}
use Rattle.switch_frame.specs.declared.active.Active.{Active}
use Rattle.mix_reach.specs.declared.reach.Reach.{Reach}
use Rattle.mix_reach.specs.declared.reach.Stores.{Stores}
use Rattle.mix_reach.specs.laws.Ranges.{range}
use Rattle.mix_reach.specs.laws.Steps.{reach}
use Rattle.mix_debug.specs.declared.head.BlockChange.{BlockChange}
use Rattle.mix_debug.specs.declared.head.BlockChange.TheVariants.{Stays, Made, Freed}

-- in the block that it made, or where the instruction, the host function or the frame tells
abbrev pub stored_in : BlockChange → Stores → ℕ → ℕ → Active → Reach
stored_in (Made b) next old new active = range b.address next.filled
stored_in Stays next old new active = reach next old new active
stored_in (Freed b) next old new active = reach next old new active

-- a step that leaves the number of blocks leaves the blocks
abbrev pub SameBlocks : List Block → List Block → Type 0
SameBlocks old new = length new ≡ length old → new ≡ old
