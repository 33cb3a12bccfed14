-- Laws of memory.
use Rattle.std.specs.Prelude.{◌≡◌, ℕ, ◌+◌, ◌*◌, ◌<◌, ◌≤◌, nat_le, nat_lt, Bool, ◌&&◌, if◌then◌else◌, List, length, get_or, replicate, slice_index_or, Option, None, Some, MatchOption, Result, Ok, Err, true, false}
use Rattle.byteorder.specs.Endian.{big_bytes, big_number}
use Rattle.mix_bits.specs.declared.size.Size.{Size}
use Rattle.mix_bits.specs.Sizes.{bytes_of, truncated}
use Rattle.big_memory.specs.declared.refusals.Access.{Access}
use Rattle.big_memory.specs.Lists.{part}
use Rattle.big_memory.specs.Memory.{Memory, IsRam, copied, copy_refusal, floor_of, meets_gate, meets_guard, refusal, in_memory, loaded, stored, with_bytes}
use Rattle.big_memory.specs.laws.Memory.{IsFree}
use Rattle.big_memory.specs.MemoryClauses.{IsDoneUnless, IsDoneUnlessRefused, with_marks}
use Rattle.big_memory.specs.laws.Stores.{IsSameBeside}
use Rattle.big_memory.specs.StoresClauses.{OnlyFree}
use Rattle.big_memory.specs.Stores.{stored_value}

-- what may be stored into as a whole may be stored into in parts
abbrev pub PassesWithin : Type 0
PassesWithin = (m : Memory) (a n b k : ℕ) → IsRam m → refusal m a n ≡ None → a ≤ b → b + k ≤ a + n → refusal m b k ≡ None

-- a store changes no refusal
abbrev pub KeepsRefusals : Type 0
KeepsRefusals = (m : Memory) (at : ℕ) (ys : List ℕ) (a n : ℕ) → at + length ys ≤ length m.bytes → refusal (with_bytes at ys m) a n ≡ refusal m a n

-- a load gives what was stored there
abbrev pub LoadsBack : Type 0
LoadsBack = (m : Memory) (a : ℕ) (s : Size) (v : ℕ) → in_memory m a (bytes_of s) ≡ true → loaded (stored m a s v) a s ≡ Ok (truncated v s)

-- a load is the number in its part of the bytes
abbrev pub LoadsPart : Type 0
LoadsPart = (m : Memory) (a : ℕ) (s : Size) → in_memory m a (bytes_of s) ≡ true → loaded m a s ≡ Ok (big_number (bytes_of s) (part a (bytes_of s) m.bytes))

-- what lies inside bytes that are in memory is in memory
abbrev pub InMemoryWithin : Type 0
InMemoryWithin = (m : Memory) (a n b k : ℕ) → in_memory m a n ≡ true → a ≤ b → b + k ≤ a + n → in_memory m b k ≡ true

-- bytes put where they fit, and marks put from the floor of the stack up, keep what every memory meets
abbrev pub BytesKeepRam : Type 0
BytesKeepRam = (m : Memory) (at : ℕ) (ys : List ℕ) → at + length ys ≤ length m.bytes → IsRam m → IsRam (with_bytes at ys m)

abbrev pub MarksKeepRam : Type 0
MarksKeepRam = (m : Memory) (unit : ℕ) (ys : List Bool) → floor_of m ≤ 16 * unit → unit + length ys ≤ length m.marks → IsRam m → IsRam (with_marks unit ys m)

-- the mark of a unit, after the marks of n units from `first` on are set or cleared
abbrev pub MarksOfRange : Type 0
MarksOfRange =
    (m : Memory) (first n unit : ℕ) (on : Bool) → first + n ≤ length m.marks
    → slice_index_or (with_marks first (replicate n on) m).marks unit false ≡ (if nat_le first unit && nat_lt unit (first + n) then on else slice_index_or m.marks unit false)

-- bytes that lie in memory and meet neither the gate page nor a guarded unit
pub record Passes (m : Memory) (a n : ℕ) : Type 0 where
  pub within : a + n ≤ length m.bytes
  pub gate : meets_gate a n ≡ false
  pub guard : meets_guard m a n ≡ false

-- a store is not refused exactly where its bytes are such
abbrev pub OpenPasses : Type 0
OpenPasses = (m : Memory) (a n : ℕ) → 0 < n → refusal m a n ≡ None → Passes m a n

abbrev pub PassesOpen : Type 0
PassesOpen = (m : Memory) (a n : ℕ) → 0 < n → Passes m a n → refusal m a n ≡ None

-- the test of the units that bytes touch fails exactly where none of them is guarded
abbrev pub TestsFree : Type 0
TestsFree = (m : Memory) (a n : ℕ) → length m.bytes ≡ 16 * length m.marks → 0 < n → a + n ≤ length m.bytes → meets_guard m a n ≡ false → IsFree m a n

abbrev pub FreeTests : Type 0
FreeTests = (m : Memory) (a n : ℕ) → length m.bytes ≡ 16 * length m.marks → 0 < n → a + n ≤ length m.bytes → IsFree m a n → meets_guard m a n ≡ false

-- no store between the gate page and the floor of the stack is refused
abbrev pub OpenBelowFloor : Type 0
OpenBelowFloor = (m : Memory) (a n : ℕ) → IsRam m → 0x2000 ≤ a → a + n ≤ floor_of m → refusal m a n ≡ None

-- no change, and one such change after another, changes only what a store may change
abbrev pub NothingIsFree : Type 0
NothingIsFree = (m : Memory) → OnlyFree m m

abbrev pub FreeJoins : Type 0
FreeJoins = (l m n : Memory) → OnlyFree l m → OnlyFree m n → OnlyFree l n

-- so do bytes put where a store is not refused, a store or a fill as it is answered, and a copy
abbrev pub StoresAreFree : Type 0
StoresAreFree = (m : Memory) (a n : ℕ) (ys : List ℕ) → length ys ≡ n → IsRam m → refusal m a n ≡ None → OnlyFree m (with_bytes a ys m)

abbrev pub DoneIsFree : Type 0
DoneIsFree =
    (m new : Memory) (a n : ℕ) (ys : List ℕ) (result : Result (Unit {0}) Access) → length ys ≡ n → IsRam m
    → IsDoneUnlessRefused m a n (with_bytes a ys m) new result (record {}) → OnlyFree m new

abbrev pub CopiesAreFree : Type 0
CopiesAreFree =
    (m new : Memory) (from to n : ℕ) (result : Result (Unit {0}) Access) → IsRam m
    → IsDoneUnless (copy_refusal m from to n) m (copied m from to n) new result (record {}) → OnlyFree m new

-- such a change keeps what every memory meets, every refusal, and the gate page
abbrev pub FreeKeepsRam : Type 0
FreeKeepsRam = (m n : Memory) → IsRam m → OnlyFree m n → IsRam n

abbrev pub FreeKeepsRefusals : Type 0
FreeKeepsRefusals = (m n : Memory) (a k : ℕ) → OnlyFree m n → refusal n a k ≡ refusal m a k

abbrev pub FreeKeepsPage : Type 0
FreeKeepsPage = (m n : Memory) → IsRam m → OnlyFree m n → part 0x1000 0x1000 n.bytes ≡ part 0x1000 0x1000 m.bytes

-- bytes put from an address up to another one change nothing beside
abbrev pub BytesStayBeside : Type 0
BytesStayBeside =
    (m : Memory) (low high : ℕ) (ys : List ℕ) → low + length ys ≡ high → high ≤ length m.bytes → IsSameBeside low high m (with_bytes low ys m)

-- the bytes of a value are as many as its size has, and a store of that size that is not refused lies in memory
abbrev pub BytesOfSize : Type 0
BytesOfSize = (s : Size) (v : ℕ) → length (big_bytes (bytes_of s) v) ≡ bytes_of s

abbrev pub OpenInMemory : Type 0
OpenInMemory = (m : Memory) (a : ℕ) (s : Size) → refusal m a (bytes_of s) ≡ None → in_memory m a (bytes_of s) ≡ true

-- what a probe answers tells whether there is a refusal, and which
abbrev pub ProbePasses : Type 0
ProbePasses = (reason : Option Access) (result : Result (Unit {0}) Access) → MatchOption reason (result ≡ Ok (record {})) (λ e. result ≡ Err e) → result ≡ Ok (record {}) → reason ≡ None

abbrev pub ProbeRefuses : Type 0
ProbeRefuses =
    (reason : Option Access) (result : Result (Unit {0}) Access) (e : Access) → MatchOption reason (result ≡ Ok (record {})) (λ e. result ≡ Err e) → result ≡ Err e → reason ≡ Some e

-- memories as long as each other that agree on a range have the same bytes there
abbrev pub SamePart : Type 0
SamePart = (at n : ℕ) (xs ys : List ℕ) → length xs ≡ length ys → at + n ≤ length ys → ((k : ℕ) → at ≤ k → k < at + n → get_or xs k 0 ≡ get_or ys k 0) → part at n xs ≡ part at n ys

-- a load behind a store of the same size gives what was stored
abbrev pub StoredLoads : Type 0
StoredLoads = (m n : Memory) (a : ℕ) (s : Size) (v : ℕ) → stored_value m a s v ≡ Ok n → loaded n a s ≡ Ok (truncated v s)
