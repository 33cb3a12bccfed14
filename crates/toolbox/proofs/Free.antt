-- Bytes of a block of the heap may be stored into: they lie between the gate page and the stack.
use Rattle.std.proofs.Common.{◌≡◌, ℕ, zero, suc, ◌+◌, ◌-◌, ◌/◌, ◌<◌, ◌≤◌, Bool, false, List, [], ◌∷◌, length, take, drop, get_or, Option, None, Some, Result, Ok, arith, refl, ◌∙◌}
use Rattle.std.specs.List.{list_any}
use Rattle.std.proofs.lemmas.Bool.Decides.{nat_tests}
use Rattle.std.proofs.lemmas.List.{get_or-drop}
use Rattle.big_memory.specs.declared.refusals.Access.{Access}
use Rattle.big_memory.specs.Memory.{Memory, IsRam, floor_of, meets_gate, meets_guard, refusal}
use Rattle.big_memory.specs.MemoryClauses.{IsDoneUnless}
use Rattle.host_heap.specs.Space.{Space}
use Rattle.host_heap.specs.PlaceClauses.{IsPlace}
use Rattle.toolbox.specs.CallsClauses.{HeapLies}

front_clear : (xs : List Bool) (n : ℕ) → ((k : ℕ) → k < n → get_or xs k false ≡ false) → list_any (λ mark. mark) (take n xs) ≡ false
front_clear xs zero clear = refl
front_clear [] (suc n) clear = refl
front_clear (x ∷ xs) (suc n) clear = rw (clear 0 (omega arith)) (front_clear xs n (λ k below. clear (suc k) (omega arith)))

-- below the floor nothing is guarded
unguarded : (m : Memory) (a n : ℕ) → IsRam m → 0 < n → a + n ≤ floor_of m → meets_guard m a n ≡ false
unguarded m a n ram some below =
    front_clear (drop (a / 16) m.marks) ((a + n - 1) / 16 + 1 - a / 16)
    (λ k low. get_or-drop (a / 16) m.marks k false ∙ ram.clear (a / 16 + k) (omega (arith, low, below, some)))

free_below : (m : Memory) (a n : ℕ) → IsRam m → 0 < n → 0x2000 ≤ a → a + n ≤ floor_of m → refusal m a n ≡ None
free_below m a n ram some above below =
    let gate : meets_gate a n ≡ false = grind (arith, nat_tests) in
    let guard : meets_guard m a n ≡ false = unguarded m a n ram some below in
    let within : a + n ≤ length m.bytes = omega (arith, below) in
    grind (arith, nat_tests, within, gate, guard)

-- a new block
pub block_free : (m : Memory) (s : Space) (size a : ℕ) → IsRam m → HeapLies s m → IsPlace s size (Some a) → refusal m a size ≡ None
block_free m s zero a ram lies place = refl
block_free m s (suc size) a ram lies place =
    free_below m a (suc size) ram (omega arith) (omega (arith, lies.above, place.1.room.above)) (omega (arith, lies.below, place.1.room.below))

-- a call that is not refused is done
pub done : {T : Type 0} (reason : Option Access) (old after new : Memory) (result : Result T Access) (ok : T) → reason ≡ None → IsDoneUnless reason old after new result ok → (result ≡ Ok ok) × (new ≡ after)
done None old after new result ok none h = h
done (Some e) old after new result ok none h = cc
