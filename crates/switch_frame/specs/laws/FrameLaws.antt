-- Laws of single frames: what stands at the first record, what lies apart from the frames, and where a new frame may lie.
use Rattle.std.specs.Prelude.{◌≡◌, ◌↔◌, ℕ, ◌+◌, ◌-◌, ◌*◌, ◌≤◌, true, false, List, [], ◌∷◌, length, Ok}
use Rattle.big_memory.specs.Lists.{part}
use Rattle.big_memory.specs.Memory.{Memory, IsRam, floor_of}
use Rattle.proc_info.specs.Signature.{has_signature}
use Rattle.switch_frame.specs.declared.kind.Kind.{Kind}
use Rattle.big_memory.specs.Numbers.{bytes_of_longs}
use Rattle.switch_frame.specs.Sets.{caller_isa}
use Rattle.switch_frame.specs.Records.{Record, isa_of}
use Rattle.switch_frame.specs.laws.Chain.{Above, Apart}
use Rattle.switch_frame.specs.Chain.{Chain, Frames, IsInside, Links, cleared, most_frames}
use Rattle.big_memory.specs.Lists.{zeros}
use Rattle.switch_frame.specs.CallsClauses.{IsCalled, IsPlace}
use Rattle.switch_frame.specs.Calls.{is_crossed, room_of}
use Rattle.switch_frame.specs.laws.Laws.{IsStored, meets_frames}

-- the chain begins at 0 exactly where there is no record
abbrev pub TopIsZero : Type 0
TopIsZero = (m : Memory) (top : ℕ) (rs : List Record) → Links m top rs → (top ≡ 0) ↔ (rs ≡ [])

-- the kind of the first record tells its caller's set, its info has a signature, and it was called as the chain says
pub record IsFirst (r : Record) (rs : List Record) : Type 0 where
  pub kind : caller_isa r.kind ≡ isa_of r.caller
  pub signature : has_signature r.info ≡ true
  pub called : IsCalled r.caller rs

abbrev pub FirstIsHeld : Type 0
FirstIsHeld = (m : Memory) (top : ℕ) (r : Record) (rs : List Record) → Links m top (r ∷ rs) → IsFirst r rs

-- bytes meet no frame exactly where each record's range lies apart from them
abbrev pub MeetsNone : Type 0
MeetsNone = (a n : ℕ) (rs : List Record) → (meets_frames a n rs ≡ false) ↔ Apart a n rs

-- bytes apart from each record's range can be stored, whatever else stands there
abbrev pub StoredApart : Type 0
StoredApart =
    (m : Memory) (top : ℕ) (rs : List Record) (a : ℕ) (ys : List ℕ) → a + length ys ≤ length m.bytes → Apart a (length ys) rs → Chain m top rs → IsStored m top rs a ys

-- bytes that end at or below an address which is not above the innermost frame's lo lie apart from each frame
abbrev pub BelowInnermost : Type 0
BelowInnermost = (m : Memory) (top : ℕ) (rs : List Record) (hi a n : ℕ) → Links m top rs → is_crossed rs hi ≡ false → a + n ≤ hi → Apart a n rs

-- the frames outside a frame lie above it
abbrev pub FramesAbove : Type 0
FramesAbove = (len : ℕ) (bytes : List ℕ) (r : Record) (rs : List Record) → IsInside r rs → Frames len bytes rs → Above r.hi rs

-- room is a place, and leaves the callee its stack
abbrev pub RoomIsPlace : Type 0
RoomIsPlace =
    (m : Memory) (rs : List Record) (sp : ℕ) (kind : Kind) (below : ℕ) (range : ℕ × ℕ) → IsRam m → length rs ≤ most_frames → room_of m rs sp kind below ≡ Ok range
    → IsPlace m rs kind range.0 range.1 × (floor_of m + below ≤ range.0)

-- places and room depend on how long memory is, and on nothing else in it
abbrev pub PlaceByLength : Type 0
PlaceByLength = (m n : Memory) (rs : List Record) (kind : Kind) (lo hi : ℕ) → length n.bytes ≡ length m.bytes → IsPlace m rs kind lo hi → IsPlace n rs kind lo hi

abbrev pub RoomByLength : Type 0
RoomByLength = (m n : Memory) (rs : List Record) (sp : ℕ) (kind : Kind) (below : ℕ) → length n.bytes ≡ length m.bytes → room_of n rs sp kind below ≡ room_of m rs sp kind below

-- each record's range holds zeros
abbrev pub AreZeros : List ℕ → List Record → Type 0
AreZeros bytes [] = Unit {0}
AreZeros bytes (r ∷ rs) = (part r.lo (r.hi - r.lo) bytes ≡ zeros (r.hi - r.lo)) × AreZeros bytes rs

-- the memory beside the frames is 0 in their ranges
abbrev pub ZerosBeside : Type 0
ZerosBeside = (m : Memory) (top : ℕ) (rs : List Record) → Links m top rs → AreZeros (cleared m.bytes rs) rs

abbrev pub LengthZeros : Type 0
LengthZeros = (n : ℕ) → length (zeros n) ≡ n

-- a long is four bytes
abbrev pub LengthBytes : Type 0
LengthBytes = (xs : List ℕ) → length (bytes_of_longs xs) ≡ 4 * length xs
