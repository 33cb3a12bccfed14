-- Laws of a frame's range: where it lies, and its marks.
use Rattle.std.specs.Prelude.{◌≡◌, ℕ, ◌-◌, ◌/◌, ◌<◌, ◌⊎◌, Bool, false, cond, List, ◌∷◌, length, replicate, slice_index_or}
use Rattle.big_memory.specs.Lists.{put}
use Rattle.big_memory.specs.Memory.{Memory, IsRam}
use Rattle.big_memory.specs.MemoryClauses.{with_marks}
use Rattle.switch_frame.specs.Records.{Record}
use Rattle.switch_frame.specs.Chain.{Chain, FitsAlone, Links, outer_of}
use Rattle.switch_frame.specs.ChainClauses.{in_range}
use Rattle.switch_frame.specs.laws.Chain.{IsFrameRange}

-- the innermost frame begins below the next outer one, if there is one
abbrev pub TopTells : Type 0
TopTells =
    (m : Memory) (top : ℕ) (r : Record) (rs : List Record) → Links m top (r ∷ rs) → (0 < top) × ((outer_of rs ≡ 0) ⊎ (top < outer_of rs))

-- a record that fits has a range that a frame may have
abbrev pub FitsIsRange : Type 0
FitsIsRange = (m : Memory) (r : Record) → FitsAlone (length m.bytes) r → IsFrameRange m r.lo r.hi

-- and it is one in each memory that is as long
abbrev pub RangeMoves : Type 0
RangeMoves = (m n : Memory) (lo hi : ℕ) → length n.bytes ≡ length m.bytes → IsFrameRange m lo hi → IsFrameRange n lo hi

-- a unit's mark, when those of such a range are replaced
abbrev pub MarkAt : Type 0
MarkAt =
    (m : Memory) (lo hi unit : ℕ) (on : Bool) → IsRam m → IsFrameRange m lo hi
    → slice_index_or (put (lo / 16) (replicate ((hi - lo) / 16) on) m.marks) unit false ≡ cond (in_range lo hi unit) on (slice_index_or m.marks unit false)

-- that leaves a memory
abbrev pub MarksKept : Type 0
MarksKept =
    (m : Memory) (lo hi : ℕ) (on : Bool) → IsRam m → IsFrameRange m lo hi → IsRam (with_marks (lo / 16) (replicate ((hi - lo) / 16) on) m)

-- chains of the same records in memories of one length have the same marks
abbrev pub MarksSame : Type 0
MarksSame = (m n : Memory) (s t : ℕ) (rs : List Record) → Chain m s rs → Chain n t rs → length m.bytes ≡ length n.bytes → m.marks ≡ n.marks
