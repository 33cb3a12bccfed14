-- Laws of refusals, and of what a store leaves.
use Rattle.std.proofs.Common.{◌≡◌, inl, inr, ℕ, zero, suc, ◌+◌, ◌-◌, ◌*◌, ◌/◌, ◌%◌, ◌<◌, ◌≤◌, Bool, true, false, List, ◌++◌, length, drop, get_or, slice_range, None, Ok, arith, ◌∙◌, ap, refl}
use Rattle.std.specs.List.{list_any}
use Rattle.std.proofs.lemmas.Bool.{cases_Bool}
use Rattle.std.proofs.lemmas.Bool.Decides.{nat_tests}
use Rattle.mix_bits.specs.declared.size.Size.{Size}
use Rattle.mix_bits.specs.declared.size.Size.TheVariants.{Zero, One, Two, Four}
use Rattle.mix_bits.specs.Sizes.{bytes_of, truncated}
use Rattle.byteorder.specs.Endian.{big_number, big_bytes}
use Rattle.big_memory.specs.Lists.{put}
use Rattle.big_memory.specs.Memory.{Memory, meets_gate, meets_guard, refusal, in_memory, loaded, stored}
use Rattle.big_memory.specs.laws.Memory.{IsFree}
pub use Rattle.big_memory.specs.laws.Laws.{Passes}
use Rattle.big_memory.specs.laws.Laws.{PassesWithin, KeepsRefusals, LoadsBack}
use Rattle.big_memory.proofs.Lists.{length-put, drop-put}
use Rattle.big_memory.proofs.Packed.{any_none, any_found}

-- each mark of a range that has none
each_clear : (marks : List Bool) (from to k : ℕ) → to ≤ length marks → list_any (λ mark. mark) (slice_range marks from to) ≡ false → from ≤ k → k < to → get_or marks k false ≡ false
each_clear marks from to k within none after before =
    elim (cases_Bool (get_or marks k false)) [
      | inl set ↦ let found : list_any (λ mark. mark) (slice_range marks from to) ≡ true = any_found marks from to k within after before set in cc
      | inr clear ↦ clear
    ]

-- the test of the units that bytes touch, as a relation
pub free_from_test : (m : Memory) (a n : ℕ) → length m.bytes ≡ 16 * length m.marks → 0 < n → a + n ≤ length m.bytes → meets_guard m a n ≡ false → IsFree m a n
free_from_test m a n units some within none unit low high =
    each_clear m.marks (a / 16) ((a + n - 1) / 16 + 1) unit (omega arith) none (omega arith) (omega arith)

pub test_from_free : (m : Memory) (a n : ℕ) → length m.bytes ≡ 16 * length m.marks → 0 < n → a + n ≤ length m.bytes → IsFree m a n → meets_guard m a n ≡ false
test_from_free m a n units some within free =
    any_none m.marks (a / 16) ((a + n - 1) / 16 + 1) (omega arith) (λ unit after before. free unit (omega arith) (omega arith))

-- what it says that no store is refused
pub passes : (m : Memory) (a n : ℕ) → 0 < n → refusal m a n ≡ None → Passes m a n
passes m a n some none = record { within = grind (arith, nat_tests); gate = grind (arith, nat_tests); guard = grind (arith, nat_tests) }

pub refusal-none : (m : Memory) (a n : ℕ) → 0 < n → Passes m a n → refusal m a n ≡ None
refusal-none m a n some all = grind (arith, nat_tests, all.within, all.gate, all.guard)

pub passes_within : PassesWithin
passes_within m a n b zero ram none from to = refl
passes_within m a n b (suc k) ram none from to =
    let all : Passes m a n = passes m a n (omega arith) none in
    let free : IsFree m a n = free_from_test m a n ram.units (omega arith) all.within all.guard in
    let gate : meets_gate b (suc k) ≡ false = grind (arith, nat_tests, all.gate) in
    let guard : meets_guard m b (suc k) ≡ false = test_from_free m b (suc k) ram.units (omega arith) (omega (arith, all.within)) (λ unit low high. free unit (omega arith) (omega arith)) in
    refusal-none m b (suc k) (omega arith) (record { within = omega (arith, all.within); gate = gate; guard = guard })

-- bytes of one unit that is not guarded, above the gate page
pub open_unit : (m : Memory) (a n : ℕ) → length m.bytes ≡ 16 * length m.marks → 0 < n → a % 16 + n ≤ 16 → 0x2000 ≤ a → a + n ≤ length m.bytes → get_or m.marks (a / 16) false ≡ false → refusal m a n ≡ None
open_unit m a n units some one above within clear =
    let gate : meets_gate a n ≡ false = grind (arith, nat_tests) in
    let guard : meets_guard m a n ≡ false =
    test_from_free m a n units some within (λ unit low high. let same : unit ≡ a / 16 = omega (arith, low, high) in ap (λ k. get_or m.marks k false) same ∙ clear) in
    refusal-none m a n some (record { within = within; gate = gate; guard = guard })

pub keeps_refusals : KeepsRefusals
keeps_refusals m at ys a n within = rw (length-put at ys m.bytes within) refl

-- where the bytes of a value read back, a load gives it
back : (m : Memory) (a : ℕ) (s : Size) (v : ℕ) → a + bytes_of s ≤ length m.bytes → length (big_bytes (bytes_of s) v) ≡ bytes_of s → ((rest : List ℕ) → big_number (bytes_of s) (big_bytes (bytes_of s) v ++ rest) ≡ truncated v s) → loaded (stored m a s v) a s ≡ Ok (truncated v s)
back m a s v inside count number =
    let here : drop a (put a (big_bytes (bytes_of s) v) m.bytes) ≡ big_bytes (bytes_of s) v ++ drop (a + length (big_bytes (bytes_of s) v)) m.bytes = drop-put a (big_bytes (bytes_of s) v) m.bytes (omega arith) in
    let kept : in_memory (stored m a s v) a (bytes_of s) ≡ true = grind (arith, nat_tests, length-put a (big_bytes (bytes_of s) v) m.bytes) in
    rw kept (ap Ok (ap (big_number (bytes_of s)) here ∙ number _))

pub loads_back : LoadsBack
loads_back m a Zero v within = let none : 0 ≡ truncated v Zero = omega arith in ap Ok none
loads_back m a One v within = back m a One v (grind (arith, nat_tests)) refl (λ rest. omega arith)
loads_back m a Two v within = back m a Two v (grind (arith, nat_tests)) refl (λ rest. omega arith)
loads_back m a Four v within = back m a Four v (grind (arith, nat_tests)) refl (λ rest. omega arith)
