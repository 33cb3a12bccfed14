-- What holds of blocks that are placed and given up.
use Rattle.std.specs.Prelude.{◌≡◌, ◌≢◌, ◌↔◌, ◌⊎◌, ℕ, ◌+◌, ◌<◌, ◌≤◌, [], ◌∷◌, ◌++◌, length, Some, IsTrue, false, All}
use Rattle.std.specs.List.{Contains}
use Rattle.host_heap.specs.declared.block.Block.{Block}
use Rattle.host_heap.specs.Space.{Space, block_limit, rounded}
use Rattle.host_heap.specs.SpaceClauses.{HasRoom}
use Rattle.host_heap.specs.laws.Place.{CanPlace, last_end, may_follow}
use Rattle.host_heap.specs.Place.{place_for, can_append, can_place, is_behind, placed, taken, begins_at, freed}
use Rattle.host_heap.specs.Sound.{IsAligned, IsSound}

-- what the test of a place tells
abbrev pub PlacesAreTested : Type 0
PlacesAreTested = (s : Space) (size address : ℕ) → IsTrue (can_place s size address) ↔ CanPlace s size address

-- where another block has room, none begins
abbrev pub RoomBeginsNone : Type 0
RoomBeginsNone = (s : Space) (size address : ℕ) → IsSound s → 8 ≤ size → HasRoom s size address → All (λ b. b.address ≢ address) s.blocks

-- a sound heap stays sound with a block that may be placed
abbrev pub PlacingKeepsSound : Type 0
PlacingKeepsSound = (s : Space) (size address : ℕ) → IsSound s → IsTrue (can_place s size address) → IsSound (placed s size address)

-- the block that `get` makes may be placed, and `get` leaves what `place` leaves
abbrev pub TakingPlaces : Type 0
TakingPlaces =
    (s : Space) (size address : ℕ) → IsSound s → place_for s size ≡ Some address →
    IsTrue (can_place s (rounded size) address) × (taken s size ≡ placed s (rounded size) address)

-- to give up a block that was placed gives the heap that was
abbrev pub FreeingUndoesPlacing : Type 0
FreeingUndoesPlacing =
    (s : Space) (size address : ℕ) → IsSound s → IsTrue (can_place s size address) → freed (placed s size address) address ≡ s

-- a block that was given up may be placed again, and that gives the heap that was
abbrev pub PlacingUndoesFreeing : Type 0
PlacingUndoesFreeing =
    (s : Space) (block : Block) → IsSound s → Contains s.blocks block →
    IsTrue (can_place (freed s block.address) block.size block.address) × (placed (freed s block.address) block.size block.address ≡ s)

-- where no block begins, there is none to give up
abbrev pub FreeingNothing : Type 0
FreeingNothing = (s : Space) (address : ℕ) → begins_at s.blocks address ≡ false → freed s address ≡ s

-- a block behind all others is the last one
abbrev pub PlacingAppends : Type 0
PlacingAppends =
    (s : Space) (size address : ℕ) → All IsAligned s.blocks → IsTrue (is_behind s.blocks address) →
    placed s size address ≡ record s { blocks = s.blocks ++ record { address = address; size = size } ∷ [] }

-- and where there is room for one more block, the last one tells whether it may stand there
abbrev pub LastTells : Type 0
LastTells =
    (s : Space) (size address : ℕ) → IsSound s → length s.blocks < block_limit →
    can_append s size address ≡ may_follow (last_end s.low s.blocks) s.high size address

-- the bytes of a block
abbrev pub HasByte : Block → ℕ → Type 0
HasByte b byte = (b.address ≤ byte) × (byte < b.address + b.size)

-- the block that `get` makes
abbrev pub got : ℕ → ℕ → Block
got size address = record { address = address; size = rounded size }

-- no byte of it is one of a block that is in use
abbrev pub TakesFreeBytes : Type 0
TakesFreeBytes =
    (s : Space) (size address : ℕ) (b : Block) (byte : ℕ) → place_for s size ≡ Some address → Contains s.blocks b → HasByte b byte →
    ¬ HasByte (got size address) byte

-- after `get` the blocks are those that were, and it
abbrev pub TakingAddsOne : Type 0
TakingAddsOne =
    (s : Space) (size address : ℕ) (b : Block) → IsSound s → place_for s size ≡ Some address →
    Contains (taken s size).blocks b ↔ ((b ≡ got size address) ⊎ Contains s.blocks b)

-- after `free` they are those that were, but for the one at the address
abbrev pub FreeingTakesOne : Type 0
FreeingTakesOne =
    (s : Space) (address : ℕ) (b : Block) → Contains (freed s address).blocks b ↔ (Contains s.blocks b × (b.address ≢ address))

-- once a block is given up, `get` has its bytes again: a block of that size or less goes there or lower
abbrev pub FreedBytesAreThere : Type 0
FreedBytesAreThere =
    (s : Space) (b : Block) (size : ℕ) → IsSound s → Contains s.blocks b → rounded size ≤ b.size →
    (address : ℕ) × (place_for (freed s b.address) size ≡ Some address) × (address ≤ b.address)
