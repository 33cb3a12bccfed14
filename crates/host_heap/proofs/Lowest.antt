-- the lowest address that fits, as a value and as a relation
use Rattle.std.proofs.Common.{ℕ, ◌≡◌, ◌+◌, ◌-◌, ◌<◌, ◌≤◌, zero, suc, Bool, true, false, cond, Option, Some, None, length, ◌⊎◌, inl, inr, ⊎_elim, refl, sym, ap, ◌∙◌, subst, arith}
use Rattle.std.proofs.lemmas.Option.{MatchOption-at_some}
use Rattle.std.specs.Prelude.{MatchOption}
use Rattle.std.proofs.lemmas.Bool.{cases_Bool, cases_lt, both_ways, lt-ltb, le-ltb}
use Rattle.host_heap.specs.Space.{Space, block_limit, rounded}
use Rattle.host_heap.specs.SpaceClauses.{IsLowest, HasNone}
use Rattle.host_heap.specs.Place.{fits, first_from, lowest_fit, place_for}
use Rattle.host_heap.specs.PlaceClauses.{IsPlace}
use Rattle.host_heap.proofs.Fits.{HasRoom-from_fits, fits_from}

-- what a search of the numbers from `start` on, and below `end`, answers
abbrev pub IsFirst : (ℕ → Bool) → ℕ → ℕ → Option ℕ → Type 0
IsFirst test start end r =
    MatchOption r
    ((k : ℕ) → start ≤ k → k < end → test k ≡ true → ⊥)
    (λ a. (test a ≡ true) × ((k : ℕ) → start ≤ k → test k ≡ true → a ≤ k))

at_or_after : (a b : ℕ) → a ≤ b → (b ≡ a) ⊎ (suc a ≤ b)
at_or_after a b l =
    ⊎_elim (λ (e : a < b). inr (omega arith)) (λ (e : b ≤ a). inl (omega arith)) (cases_lt a b)

-- the first number fails the test
first_later : (test : ℕ → Bool) (start end : ℕ) → (r : Option ℕ) → test start ≡ false → IsFirst test (suc start) end r → IsFirst test start end r
first_later test start end None fails h =
    λ k low high good. ⊎_elim (λ (e : k ≡ start). both_ways (test start) fails (subst (λ (j : ℕ). test j ≡ true) e good)) (λ (l : suc start ≤ k). h k l high good) (at_or_after start k low)
first_later test start end (Some a) fails h =
    (h.0, λ k low good. ⊎_elim (λ (e : k ≡ start). absurd (both_ways (test start) fails (subst (λ (j : ℕ). test j ≡ true) e good))) (λ (l : suc start ≤ k). h.1 k l good) (at_or_after start k low))

-- the first number passes the test
first_now : (test : ℕ → Bool) (start end : ℕ) → test start ≡ true → IsFirst test start end (Some start)
first_now test start end passes = (passes, λ k low good. low)

pub first_from-first : (test : ℕ → Bool) (start count end : ℕ) → end ≡ start + count → IsFirst test start end (first_from test start count)
unfolding first_from
first_from-first test start zero end e = λ k low high good. omega arith
first_from-first test start (suc count) end e =
    elim (cases_Bool (test start)) as (λ _. IsFirst test start end (cond (test start) (Some start) (first_from test (suc start) count))) [
      | inl passes ↦ rw passes (first_now test start end passes)
      | inr fails ↦ rw fails (first_later test start end _ fails (first_from-first test (suc start) count end (omega arith)))
    ]

-- each address that fits lies where `lowest_fit` looks
pub lowest_fit-lowest : (s : Space) (size : ℕ) → MatchOption (lowest_fit s size) (HasNone s size) (IsLowest s size)
unfolding lowest_fit
lowest_fit-lowest s size = from_first s size _ (first_from-first (fits s size) s.low (s.high + 1 - s.low) (s.low + (s.high + 1 - s.low)) refl)
  where
    from_first : (s : Space) (size : ℕ) → (r : Option ℕ) → IsFirst (fits s size) s.low (s.low + (s.high + 1 - s.low)) r → MatchOption r (HasNone s size) (IsLowest s size)
    from_first s size None h = λ a room. h a room.above (let below = room.below in omega arith) (fits_from s size a room)
    from_first s size (Some a) h = record {
      room = HasRoom-from_fits s size a h.0;
      least = λ b room. h.1 b room.above (fits_from s size b room);
    }

same_place : (s : Space) (size : ℕ) → (r q : Option ℕ) → MatchOption r (HasNone s size) (IsLowest s size) → MatchOption q (HasNone s size) (IsLowest s size) → r ≡ q
same_place s size None None h k = refl
same_place s size None (Some b) h k = absurd (h b k.room)
same_place s size (Some a) None h k = absurd (k a h.room)
same_place s size (Some a) (Some b) h k =
    let one = h.least b k.room in
    let two = k.least a h.room in
    let same : a ≡ b = omega arith in ap Some same

-- no other answer is the lowest
pub same_lowest_fit : (s : Space) (size : ℕ) → (r : Option ℕ) → MatchOption r (HasNone s size) (IsLowest s size) → r ≡ lowest_fit s size
same_lowest_fit s size r h = same_place s size r _ h (lowest_fit-lowest s size)

pub place_for-full : (s : Space) (size : ℕ) → block_limit ≤ length s.blocks → place_for s size ≡ None
unfolding place_for
place_for-full s size full = rw (le-ltb (length s.blocks) block_limit full) refl

pub place_for-free : (s : Space) (size : ℕ) → length s.blocks < block_limit → place_for s size ≡ lowest_fit s (rounded size)
unfolding place_for
place_for-free s size free = rw (lt-ltb (length s.blocks) block_limit free) refl

place_when_full : (s : Space) (size : ℕ) → (r : Option ℕ) → block_limit ≤ length s.blocks → r ≡ None → IsPlace s size r
place_when_full s size None full e = inl full
place_when_full s size (Some a) full e = absurd (cc)

place_when_free : (s : Space) (size : ℕ) → (r : Option ℕ) → length s.blocks < block_limit → MatchOption r (HasNone s (rounded size)) (IsLowest s (rounded size)) → IsPlace s size r
place_when_free s size None free h = inr h
place_when_free s size (Some a) free h = (free, h)

pub place_for-place : (s : Space) (size : ℕ) → IsPlace s size (place_for s size)
place_for-place s size =
    ⊎_elim
    (λ (free : length s.blocks < block_limit). rw (place_for-free s size free) (place_when_free s size _ free (lowest_fit-lowest s (rounded size))))
    (λ (full : block_limit ≤ length s.blocks). place_when_full s size _ full (place_for-full s size full))
    (cases_lt (length s.blocks) block_limit)

pub IsLowest-from : (s : Space) (size address : ℕ) → Some address ≡ lowest_fit s size → IsLowest s size address
IsLowest-from s size address e = MatchOption-at_some (HasNone s size) (IsLowest s size) address (sym e) (lowest_fit-lowest s size)

-- an answer of `lowest_fit` where there is room for one more block
pub same_place_for : (s : Space) (size wide : ℕ) → (r : Option ℕ) → length s.blocks < block_limit → wide ≡ rounded size → r ≡ lowest_fit s wide → r ≡ place_for s size
same_place_for s size wide r free e h = h ∙ ap (lowest_fit s) e ∙ sym (place_for-free s size free)

pub IsPlace-from : (s : Space) (size : ℕ) → (r : Option ℕ) → r ≡ place_for s size → IsPlace s size r
IsPlace-from s size r e = let P : Option ℕ → Type 0 = λ q. IsPlace s size q in subst P (sym e) (place_for-place s size)

-- no other answer is allowed
pub place_from : (s : Space) (size : ℕ) → (r : Option ℕ) → IsPlace s size r → r ≡ place_for s size
place_from s size None (inl full) = sym (place_for-full s size full)
place_from s size None (inr none) =
    ⊎_elim
    (λ (free : length s.blocks < block_limit). same_lowest_fit s (rounded size) None none ∙ sym (place_for-free s size free))
    (λ (full : block_limit ≤ length s.blocks). sym (place_for-full s size full))
    (cases_lt (length s.blocks) block_limit)
place_from s size (Some a) h = same_lowest_fit s (rounded size) (Some a) h.1 ∙ sym (place_for-free s size h.0)
