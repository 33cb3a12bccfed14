-- What is told of the heap: its bounds, and each block in use.
use Rattle.std.specs.Prelude.{List, [], ◌∷◌, ◌++◌, length, codes, decimal}
use Rattle.std.specs.List.{flat_map}
use Rattle.mix_bits.specs.Text.{hexadecimal}
use Rattle.host_heap.specs.Space.{Space}
use Rattle.host_heap.specs.declared.block.Block.{Block}
use Rattle.look_text.specs.Pieces.{joined}
use Rattle.std.specs.Prelude.{ℕ}

abbrev pub block_line : Block → List ℕ
block_line b = joined (codes "block: at " ∷ hexadecimal 8 b.address ∷ codes ", " ∷ decimal b.size ∷ codes " bytes\n" ∷ [])

abbrev pub bounds_line : Space → List ℕ
bounds_line s =
    joined (codes "heap: from " ∷ hexadecimal 8 s.low ∷ codes " to " ∷ hexadecimal 8 s.high ∷ codes ", blocks " ∷ decimal (length s.blocks) ∷ codes "\n" ∷ [])

-- a line for the heap, and one for each block in order of address
abbrev pub heap_text : Space → List ℕ
heap_text s = bounds_line s ++ flat_map block_line s.blocks
