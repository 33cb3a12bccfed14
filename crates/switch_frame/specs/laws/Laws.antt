-- Laws of chains.
use Rattle.std.specs.Prelude.{◌≡◌, ℕ, ◌+◌, ◌^◌, ◌<◌, ◌≤◌, ◌==◌, nat_lt, Bool, false, ◌&&◌, ◌||◌, if◌then◌else◌, List, [], ◌∷◌, length, slice_index_or, Option, Some, None, Ok}
use Rattle.mix_bits.specs.declared.isa.Isa.{Isa}
use Rattle.big_memory.specs.declared.refusals.Access.{Access}
use Rattle.big_memory.specs.declared.refusals.Access.TheVariants.{Outside, Gate, Frame}
use Rattle.big_memory.specs.Lists.{part, put}
use Rattle.big_memory.specs.Memory.{Memory, IsRam, floor_of, meets_gate, meets_guard, refusal, with_bytes}
use Rattle.big_memory.specs.StoresClauses.{OnlyFree}
use Rattle.switch_frame.specs.declared.kind.Kind.{Kind}
use Rattle.switch_frame.specs.Records.{Record}
use Rattle.switch_frame.specs.Chain.{Chain, Links, cleared, outer_of, records, view}
use Rattle.switch_frame.specs.CallsClauses.{IsPlace}
use Rattle.switch_frame.specs.Calls.{room_of}
use Rattle.switch_frame.specs.ChecksClauses.{IsWholeChain}
use Rattle.switch_frame.specs.Checks.{checked}
use Rattle.switch_frame.specs.Seen.{seen_by}

-- the bytes of a chain's frames, read by their layout, are its records
abbrev pub ReadsBack : Type 0
ReadsBack = (m : Memory) (top : ℕ) (rs : List Record) → Links m top rs → records m.bytes top ≡ rs

-- the frames outside the innermost one are a chain that begins at its outer lo
abbrev pub ReadsOuter : Type 0
ReadsOuter = (m : Memory) (top : ℕ) (r : Record) (rs : List Record) → Links m top (r ∷ rs) → Links m (outer_of rs) rs

-- memory with nothing guarded has a chain of no frames
abbrev pub BeginsEmpty : Type 0
BeginsEmpty = (m : Memory) → IsRam m → ((unit : ℕ) → slice_index_or m.marks unit false ≡ false) → Chain m 0 []

-- the memory is what loads read of the memory beside the frames
abbrev pub ViewIsMemory : Type 0
ViewIsMemory = (m : Memory) (top : ℕ) (rs : List Record) → Links m top rs → view (cleared m.bytes rs) rs ≡ m.bytes

abbrev pub KeepsLength : Type 0
KeepsLength = (m : Memory) (top : ℕ) (rs : List Record) → Links m top rs → length (cleared m.bytes rs) ≡ length m.bytes

-- a store that is not refused keeps the chain with its records, and goes to the memory beside the frames
pub record IsStored (m : Memory) (top : ℕ) (rs : List Record) (a : ℕ) (ys : List ℕ) : Type 0 where
  pub chain : Chain (with_bytes a ys m) top rs
  pub memory : cleared (put a ys m.bytes) rs ≡ put a ys (cleared m.bytes rs)

abbrev pub StoresBeside : Type 0
StoresBeside =
    (m : Memory) (top : ℕ) (rs : List Record) (a n : ℕ) (ys : List ℕ) → length ys ≡ n → refusal m a n ≡ None → Chain m top rs → IsStored m top rs a ys

-- whether one of the n bytes at a lies in the range of a record
abbrev pub meets_frames : ℕ → ℕ → List Record → Bool
meets_frames a n [] = false
meets_frames a n (r ∷ rs) = (nat_lt a r.hi && nat_lt r.lo (a + n)) || meets_frames a n rs

-- the guard refuses a store exactly where it meets a frame
abbrev pub GuardIsFrames : Type 0
GuardIsFrames =
    (m : Memory) (top : ℕ) (rs : List Record) (a n : ℕ) → 0 < n → a + n ≤ length m.bytes → Chain m top rs → meets_guard m a n ≡ meets_frames a n rs

-- a place is one that a call gives: to a caller whose stack pointer is its end, of a callee that takes no stack
abbrev pub PlacesAreGiven : Type 0
PlacesAreGiven = (m : Memory) (rs : List Record) (kind : Kind) (lo hi : ℕ) → IsPlace m rs kind lo hi → room_of m rs hi kind 0 ≡ Ok (lo, hi)

-- why a store of n bytes at a is refused in `len` bytes of memory with these frames, if it is
abbrev pub refusal_by : ℕ → List Record → ℕ → ℕ → Option Access
refusal_by len rs a n =
    if n == 0 then None else (if nat_lt len (a + n) then Some (Outside a) else (if meets_gate a n then Some (Gate a) else (if meets_frames a n rs then Some (Frame a) else None)))

-- stores are refused by the records' ranges
abbrev pub RefusalsAreRanges : Type 0
RefusalsAreRanges = (m : Memory) (top : ℕ) (rs : List Record) (a n : ℕ) → Chain m top rs → refusal m a n ≡ refusal_by (length m.bytes) rs a n

-- from the stack's floor up to the end of a place nothing is refused
abbrev pub PlacesAreFree : Type 0
PlacesAreFree =
    (m : Memory) (top : ℕ) (rs : List Record) (kind : Kind) (lo hi a n : ℕ) → Chain m top rs → IsPlace m rs kind lo hi → floor_of m ≤ a → a + n ≤ hi → refusal m a n ≡ None

-- the memory is what loads and stores see of the memory beside the frames
abbrev pub SeenIsMemory : Type 0
SeenIsMemory = (m : Memory) (top : ℕ) (rs : List Record) → Chain m top rs → seen_by (cleared m.bytes rs) rs ≡ m

-- where only bytes that a store may change have changed, the chain is the same
abbrev pub FreeKeepsChain : Type 0
FreeKeepsChain = (m n : Memory) (top : ℕ) (rs : List Record) → Chain m top rs → OnlyFree m n → Chain n top rs

-- below the stack the memory beside the frames is the memory
abbrev pub LowIsMemory : Type 0
LowIsMemory = (m : Memory) (top : ℕ) (rs : List Record) (a n : ℕ) → Links m top rs → a + n ≤ floor_of m → part a n (cleared m.bytes rs) ≡ part a n m.bytes

-- the innermost frame begins at an address of 32 bits
abbrev pub TopIsLong : Type 0
TopIsLong = (m : Memory) (top : ℕ) (rs : List Record) → Links m top rs → top < 2 ^ 32

-- a chain that is whole but for the guard passes the check, which counts its frames
abbrev pub WholeChainsPass : Type 0
WholeChainsPass = (m : Memory) (top : ℕ) (active main : Isa) (rs : List Record) → IsWholeChain m top active main rs → checked m top active main ≡ Ok (length rs)
