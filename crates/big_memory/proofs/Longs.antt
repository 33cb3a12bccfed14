-- Laws of stores that are done or refused as a whole.
use Rattle.std.proofs.Common.{◌≡◌, ℕ, zero, suc, ◌+◌, ◌-◌, ◌*◌, ◌<◌, ◌≤◌, true, List, [], ◌∷◌, length, drop, get_or, Option, None, Some, Result, Ok, Err, arith, sym, ◌∙◌, ap, subst, refl, drop-cons, length-drop, add-one}
use Rattle.std.proofs.lemmas.Bool.Decides.{nat_tests}
use Rattle.std.proofs.lemmas.Grind.{same_number_lists}
use Rattle.mix_bits.specs.declared.size.Size.{Size}
use Rattle.mix_bits.specs.declared.size.Size.TheVariants.{Zero, One, Two, Four}
use Rattle.mix_bits.specs.Sizes.{bytes_of}
use Rattle.mix_bits.specs.Addresses.{onward}
use Rattle.mix_bits.specs.Results.{◌>>=◌}
use Rattle.byteorder.specs.Endian.{big_bytes}
use Rattle.big_memory.specs.declared.refusals.Access.{Access}
use Rattle.big_memory.specs.laws.Laws.{BytesOfSize, OpenInMemory, ProbePasses, ProbeRefuses, StoredLoads}
use Rattle.big_memory.specs.Memory.{Memory, IsRam, in_memory, refusal, stored}
use Rattle.big_memory.specs.MemoryClauses.{IsDoneUnless, IsDoneUnlessRefused}
use Rattle.big_memory.specs.StoresClauses.{OnlyFree}
use Rattle.big_memory.specs.StoresWhole.{Stores, first_refusal, longs_refusal, with_longs}
use Rattle.big_memory.specs.Stores.{stored_longs, stored_unless, stored_value}
use Rattle.big_memory.proofs.Lists.{length-put}
use Rattle.big_memory.proofs.Guarded.{Passes, loads_back, passes, passes_within}
use Rattle.big_memory.proofs.Free.{nothing_free, free_joins, free_ram, stores_free}

pub size-bytes : BytesOfSize
size-bytes Zero v = refl
size-bytes One v = refl
size-bytes Two v = refl
size-bytes Four v = refl

-- a call that is done unless it is refused, all at once
unless_stores : (reason : Option Access) (m done new : Memory) (result : Result (Unit {0}) Access) → (reason ≡ None → OnlyFree m done) → IsDoneUnless reason m done new result (record {}) → Stores result (stored_unless reason done) m new
unless_stores None m done new result free all =
    subst (λ r. Stores r (stored_unless None done) m new) (sym all.0) (ap Ok (sym all.1), subst (λ n. OnlyFree m n) (sym all.1) (free refl))
unless_stores (Some e) m done new result free all = subst (λ r. Stores r (stored_unless (Some e) done) m new) (sym all.0) (refl, all.1)

pub value_stores : (m new : Memory) (a : ℕ) (s : Size) (v : ℕ) (result : Result (Unit {0}) Access) → IsRam m → IsDoneUnlessRefused m a (bytes_of s) (stored m a s v) new result (record {}) → Stores result (stored_value m a s v) m new
unfolding stored_value
value_stores m new a s v result ram all =
    unless_stores (refusal m a (bytes_of s)) m (stored m a s v) new result (stores_free m a (bytes_of s) (big_bytes (bytes_of s) v) (size-bytes s v) ram) all

-- what is stored where nothing is refused
done-is : (reason : Option Access) (m n : Memory) → stored_unless reason m ≡ Ok n → (reason ≡ None) × (n ≡ m)
done-is None m n is = (refl, cc)
done-is (Some e) m n is = absurd (cc)

there : (m : Memory) (a n : ℕ) → 0 < n → refusal m a n ≡ None → in_memory m a n ≡ true
there m a n some none = let within : a + n ≤ length m.bytes = (passes m a n some none).within in grind (arith, nat_tests, within)

pub size-there : OpenInMemory
size-there m a Zero none = refl
size-there m a One none = there m a 1 (omega arith) none
size-there m a Two none = there m a 2 (omega arith) none
size-there m a Four none = there m a 4 (omega arith) none

pub stored_loads : StoredLoads
unfolding stored_value
stored_loads m n a s v is =
    let done = done-is (refusal m a (bytes_of s)) (stored m a s v) n is in
    rw (done.1) (loads_back m a s v (size-there m a s done.0))

-- of two refusals there is none
first_none : (x y : Option Access) → first_refusal x y ≡ None → (x ≡ None) × (y ≡ None)
first_none None y none = (refl, none)
first_none (Some e) y none = cc

-- a long stored keeps the length
long-stored : (m : Memory) (a v : ℕ) → refusal m a 4 ≡ None → length (stored m a Four v).bytes ≡ length m.bytes
long-stored m a v none =
    let all : Passes m a 4 = passes m a 4 (omega arith) none in length-put a (big_bytes 4 v) m.bytes all.within

-- so it keeps what is refused of the longs behind it
refusal_same : (m n : Memory) (a k : ℕ) → n.marks ≡ m.marks → length n.bytes ≡ length m.bytes → refusal n a k ≡ refusal m a k
refusal_same m n a k marks long = rw (long, marks) refl

longs_same : (m n : Memory) (a k : ℕ) → n.marks ≡ m.marks → length n.bytes ≡ length m.bytes → longs_refusal n a k ≡ longs_refusal m a k
unfolding longs_refusal
longs_same m n a zero marks long = refl
longs_same m n a (suc k) marks long =
    ap (λ r. first_refusal r (longs_refusal n (onward a 4) k)) (refusal_same m n a 4 marks long)
    ∙ ap (λ r. first_refusal (refusal m a 4) r) (longs_same m n (onward a 4) k marks long)

-- the first long of several
pub long-first : (m : Memory) (a k : ℕ) → longs_refusal m a (suc k) ≡ first_refusal (refusal m a 4) (longs_refusal m (onward a 4) k)
unfolding longs_refusal
long-first m a k = refl

pub long-none : (m : Memory) (a : ℕ) → longs_refusal m a 0 ≡ None
unfolding longs_refusal
long-none m a = refl

drop-beyond : (i : ℕ) (vs : List ℕ) → length vs ≤ i → drop i vs ≡ []
drop-beyond i vs after = same_number_lists (drop i vs) [] (omega (arith, length-drop i vs)) (λ k w. absurd (omega (arith, w, length-drop i vs)))

-- what is left of the longs to be put, after one more
pub put-next : (m : Memory) (a i : ℕ) (vs : List ℕ) → i < length vs → with_longs a (drop i vs) m ≡ with_longs (onward a 4) (drop (i + 1) vs) (stored m a Four (get_or vs i 0))
unfolding with_longs
put-next m a i vs within = ap (λ xs. with_longs a xs m) (drop-cons vs i 0 within) ∙ ap (λ k. with_longs (onward a 4) (drop k vs) (stored m a Four (get_or vs i 0))) (sym (add-one i))

pub put-end : (m : Memory) (a i : ℕ) (vs : List ℕ) → length vs ≤ i → with_longs a (drop i vs) m ≡ m
unfolding with_longs
put-end m a i vs after = rw (drop-beyond i vs after) refl

left : (i : ℕ) (vs : List ℕ) → i < length vs → length (drop i vs) ≡ suc (length (drop (i + 1) vs))
left i vs within = omega (arith, length-drop i vs, length-drop (i + 1) vs)

-- and of what is refused of them
parts-none : (m : Memory) (a i : ℕ) (vs : List ℕ) → i < length vs → longs_refusal m a (length (drop i vs)) ≡ None → (refusal m a 4 ≡ None) × (longs_refusal m (onward a 4) (length (drop (i + 1) vs)) ≡ None)
parts-none m a i vs within none =
    first_none (refusal m a 4) (longs_refusal m (onward a 4) (length (drop (i + 1) vs)))
    (sym (long-first m a (length (drop (i + 1) vs))) ∙ ap (λ k. longs_refusal m a k) (sym (left i vs within)) ∙ none)

pub here-none : (m : Memory) (a i : ℕ) (vs : List ℕ) → i < length vs → longs_refusal m a (length (drop i vs)) ≡ None → refusal m a 4 ≡ None
here-none m a i vs within none = (parts-none m a i vs within none).0

pub rest-none : (m : Memory) (a i v : ℕ) (vs : List ℕ) → i < length vs → longs_refusal m a (length (drop i vs)) ≡ None → longs_refusal (stored m a Four v) (onward a 4) (length (drop (i + 1) vs)) ≡ None
rest-none m a i v vs within none =
    let parts : (refusal m a 4 ≡ None) × (longs_refusal m (onward a 4) (length (drop (i + 1) vs)) ≡ None) = parts-none m a i vs within none in
    longs_same m (stored m a Four v) (onward a 4) (length (drop (i + 1) vs)) refl (long-stored m a v parts.0) ∙ parts.1

-- all longs at once, and what that leaves of memory
first_stored : (reason : Option Access) (m : Memory) (a v : ℕ) (vs : List ℕ) → reason ≡ refusal m a 4
    → stored_longs (stored m a Four v) (onward a 4) vs ≡ stored_unless (longs_refusal (stored m a Four v) (onward a 4) (length vs)) (with_longs (onward a 4) vs (stored m a Four v))
    → (stored_unless reason (stored m a Four v) >>= λ n. stored_longs n (onward a 4) vs) ≡ stored_unless (first_refusal reason (longs_refusal m (onward a 4) (length vs))) (with_longs (onward a 4) vs (stored m a Four v))
first_stored None m a v vs is rest =
    rest ∙ ap (λ r. stored_unless r (with_longs (onward a 4) vs (stored m a Four v))) (longs_same m (stored m a Four v) (onward a 4) (length vs) refl (long-stored m a v (sym is)))
first_stored (Some e) m a v vs is rest = refl

longs_stored : (m : Memory) (a : ℕ) (vs : List ℕ) → stored_longs m a vs ≡ stored_unless (longs_refusal m a (length vs)) (with_longs a vs m)
unfolding stored_longs stored_value longs_refusal with_longs
longs_stored m a [] = refl
longs_stored m a (v ∷ vs) = first_stored (refusal m a 4) m a v vs refl (longs_stored (stored m a Four v) (onward a 4) vs)

longs_free : (m : Memory) (a : ℕ) (vs : List ℕ) → IsRam m → longs_refusal m a (length vs) ≡ None → OnlyFree m (with_longs a vs m)
unfolding longs_refusal with_longs
longs_free m a [] ram none = nothing_free m
longs_free m a (v ∷ vs) ram none =
    let parts = first_none (refusal m a 4) (longs_refusal m (onward a 4) (length vs)) none in
    let one : OnlyFree m (stored m a Four v) = stores_free m a 4 (big_bytes 4 v) refl ram parts.0 in
    let rest : longs_refusal (stored m a Four v) (onward a 4) (length vs) ≡ None =
    longs_same m (stored m a Four v) (onward a 4) (length vs) refl (long-stored m a v parts.0) ∙ parts.1 in
    free_joins m (stored m a Four v) (with_longs (onward a 4) vs (stored m a Four v)) one (longs_free (stored m a Four v) (onward a 4) vs (free_ram m (stored m a Four v) ram one) rest)

pub longs_refused : (m : Memory) (a : ℕ) (vs : List ℕ) (e : Access) → longs_refusal m a (length vs) ≡ Some e → stored_longs m a vs ≡ Err e
longs_refused m a vs e refused = longs_stored m a vs ∙ ap (λ r. stored_unless r (with_longs a vs m)) refused

pub longs_done : (m new : Memory) (a : ℕ) (vs : List ℕ) → IsRam m → longs_refusal m a (length vs) ≡ None → new ≡ with_longs a vs m → (stored_longs m a vs ≡ Ok new) × OnlyFree m new
longs_done m new a vs ram none is =
    (longs_stored m a vs ∙ ap (λ r. stored_unless r (with_longs a vs m)) none ∙ ap Ok (sym is), subst (λ n. OnlyFree m n) (sym is) (longs_free m a vs ram none))

-- none of the longs in a range is refused where the whole range is not
longs-in : (m : Memory) (from a n count : ℕ) → IsRam m → refusal m from n ≡ None → from ≤ a → a + 4 * count ≤ from + n → longs_refusal m a count ≡ None
unfolding longs_refusal
longs-in m from a n zero ram none after within = refl
longs-in m from a n (suc k) ram none after within =
    let all : Passes m from n = passes m from n (omega (arith, after, within)) none in
    let next : onward a 4 ≡ a + 4 = omega (arith, all.within, within, ram.most) in
    ap (λ r. first_refusal r (longs_refusal m (onward a 4) k)) (passes_within m from n a 4 ram none after (omega (arith, within)))
    ∙ ap (λ b. longs_refusal m b k) next ∙ longs-in m from (a + 4) n k ram none (omega (arith, after)) (omega (arith, within))

pub range_open : (m : Memory) (a count : ℕ) → IsRam m → refusal m a (4 * count) ≡ None → longs_refusal m a count ≡ None
range_open m a count ram none = longs-in m a a (4 * count) count ram none (omega arith) (omega arith)

-- what a probe answers
pub probe-err : ProbeRefuses
probe-err None result e all is = absurd (let done = sym all ∙ is in cc)
probe-err (Some f) result e all is = let refused = sym all ∙ is in cc

pub probe-ok : ProbePasses
probe-ok None result all is = refl
probe-ok (Some f) result all is = absurd (let refused = sym all ∙ is in cc)

-- the long at hand of those that are probed
pub probed : (m : Memory) (a n : ℕ) → 0 < n → longs_refusal m a n ≡ first_refusal (refusal m a 4) (longs_refusal m (onward a 4) (n - 1))
probed m a zero some = absurd (omega arith)
probed m a (suc n) some =
    let less : n ≡ suc n - 1 = omega arith in
    long-first m a n ∙ ap (λ k. first_refusal (refusal m a 4) (longs_refusal m (onward a 4) k)) less
