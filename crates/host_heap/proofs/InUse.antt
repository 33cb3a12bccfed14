-- Which blocks and bytes are in use after `get` and `free`.
use Rattle.std.proofs.Common.{◌≡◌, ◌≢◌, ◌⊎◌, inl, inr, ⊎_elim, ℕ, zero, suc, ◌<◌, ◌≤◌, Bool, true, not, Option, Some, None, List, [], ◌∷◌, length, get_or, refl, sym, ap, ◌∙◌, subst, arith}
use Rattle.std.specs.Prelude.{◌↔◌, ◌==◌, nat_lt, All, filter}
use Rattle.std.specs.List.{Contains}
use Rattle.std.proofs.lemmas.Bool.{both_ways, cases_Bool, cases_lt, eq-eqb, lt-ltb, ne_eqb}
use Rattle.std.proofs.lemmas.List.Elements.{All-contains, All-contains_itself, All-filter, Contains-append_cases, Contains-append_left, Contains-append_right, filter_passes}
use Rattle.host_heap.specs.declared.block.Block.{Block}
use Rattle.host_heap.specs.Space.{Space, block_limit, rounded}
use Rattle.host_heap.specs.SpaceClauses.{IsApart, HasRoom}
use Rattle.host_heap.specs.PlaceClauses.{IsPlace}
use Rattle.host_heap.specs.Place.{place_for, placed, taken, with_block, freed}
use Rattle.host_heap.specs.laws.Laws.{FreedBytesAreThere, FreeingTakesOne, TakesFreeBytes, TakingAddsOne, got}
use Rattle.host_heap.proofs.Lowest.{IsPlace-from, place_for-place}
use Rattle.host_heap.proofs.Keeps.{none_begins, rounded-least, taken-some}
use Rattle.host_heap.proofs.Undo.{CanPlace-freed}

-- no byte of the block that `get` makes is one of a block that is in use
pub takes_free_bytes : TakesFreeBytes
takes_free_bytes s size address b byte is in' has mine =
    let place = IsPlace-from s size (Some address) (sym is) in
    let apart = All-contains (IsApart (rounded size) address) s.blocks b place.1.room.apart in' in
    ⊎_elim (λ before. omega (arith, before, has.0, mine.1)) (λ after. omega (arith, after, has.1, mine.0)) apart

-- an element of a list is its first one, or one of the others
contains-cases : {X : Type 0} (y x : X) (ys : List X) → Contains (y ∷ ys) x → (y ≡ x) ⊎ Contains ys x
contains-cases {X} y x ys c = by c.0 c.1 c.2
  where
    by : (k : ℕ) → k < length (y ∷ ys) → get_or (y ∷ ys) k x ≡ x → (y ≡ x) ⊎ Contains ys x
    by zero within is = inl is
    by (suc k) within is = let inner : k < length ys = omega (arith, within) in inr (k, inner, is)

contains-first : {X : Type 0} (y x : X) (ys : List X) → y ≡ x → Contains (y ∷ ys) x
contains-first y x ys same = (0, omega arith, same)

contains-later : {X : Type 0} (y x : X) (ys : List X) → Contains ys x → Contains (y ∷ ys) x
contains-later y x ys c = (suc c.0, omega (arith, c.1), c.2)

-- a filter keeps the elements that pass
contains-kept : {X : Type 0} (p : X → Bool) (xs : List X) (x : X) → p x ≡ true → Contains xs x → Contains (filter p xs) x
contains-kept p [] x passes c = c
contains-kept p (y ∷ ys) x passes c = elim (contains-cases y x ys c) [
  | inl same ↦ let here : p y ≡ true = ap p same ∙ passes in rw here (contains-first y x (filter p ys) same)
  | inr later ↦
      let rest : Contains (filter p ys) x = contains-kept p ys x passes later in
      elim (cases_Bool (p y)) [ inl passed ↦ rw passed (contains-later y x (filter p ys) rest) | inr failed ↦ rw failed rest ]
]

kept-contains : {X : Type 0} (p : X → Bool) (xs : List X) (x : X) → Contains (filter p xs) x → Contains xs x × (p x ≡ true)
kept-contains p xs x c =
    (All-contains (Contains xs) (filter p xs) x (All-filter p (Contains xs) xs (All-contains_itself xs)) c, All-contains (λ y. p y ≡ true) (filter p xs) x (filter_passes p xs) c)

-- the blocks of a heap with a new one
contains-with_block : (blocks : List Block) (new b : Block) → All (λ x. x.address ≢ new.address) blocks → Contains (with_block blocks new) b ↔ ((b ≡ new) ⊎ Contains blocks b)
contains-with_block blocks new b other = (from, to)
  where
    is_below : Block → Bool
    is_below x = nat_lt x.address new.address

    is_above : Block → Bool
    is_above x = nat_lt new.address x.address

    below : List Block
    below = filter is_below blocks

    above : List Block
    above = filter is_above blocks

    from : Contains (with_block blocks new) b → (b ≡ new) ⊎ Contains blocks b
    from c = elim (Contains-append_cases below (new ∷ above) b c) [
      | inl low ↦ inr (kept-contains is_below blocks b low).0
      | inr rest ↦ elim (contains-cases new b above rest) [ inl same ↦ inl (sym same) | inr high ↦ inr (kept-contains is_above blocks b high).0 ]
    ]

    to : (b ≡ new) ⊎ Contains blocks b → Contains (with_block blocks new) b
    to (inl same) = Contains-append_right below (new ∷ above) b (contains-first new b above (sym same))
    to (inr c) = elim (cases_lt b.address new.address) [
      | inl low ↦ Contains-append_left below (new ∷ above) b (contains-kept is_below blocks b (lt-ltb _ _ low) c)
      | inr on ↦
          let elsewhere : b.address ≢ new.address = All-contains (λ (x : Block). x.address ≢ new.address) blocks b other c in
          let high : new.address < b.address = omega (arith, on, elsewhere) in
          Contains-append_right below (new ∷ above) b (contains-later new b above (contains-kept is_above blocks b (lt-ltb _ _ high) c))
    ]

pub taking_adds_one : TakingAddsOne
taking_adds_one s size address b h is =
    let place = IsPlace-from s size (Some address) (sym is) in
    let made : placed s (rounded size) address ≡ taken s size = taken-some s size (rounded size) address refl (sym is) in
    subst (λ (t : Space). Contains t.blocks b ↔ ((b ≡ got size address) ⊎ Contains s.blocks b)) made
    (contains-with_block s.blocks (got size address) b (none_begins s (rounded size) address h (rounded-least size) place.1.room))

pub freeing_takes_one : FreeingTakesOne
freeing_takes_one s address b = (from, to)
  where
    elsewhere : Block → Bool
    elsewhere x = not (x.address == address)

    from : Contains (freed s address).blocks b → Contains s.blocks b × (b.address ≢ address)
    from c =
        let kept = kept-contains elsewhere s.blocks b c in
        (kept.0, λ e. both_ways (elsewhere b) (ap not (eq-eqb _ _ e)) kept.1)

    to : Contains s.blocks b × (b.address ≢ address) → Contains (freed s address).blocks b
    to c = contains-kept elsewhere s.blocks b (ap not (ne_eqb _ _ c.1)) c.0

-- room for a block is room for a smaller one
room-less : (s : Space) (size less address : ℕ) → less ≤ size → HasRoom s size address → HasRoom s less address
room-less s size less address smaller room = record {
  above = room.above;
  below = let top = room.below in omega (arith, smaller, top);
  apart = λ k d l. ⊎_elim (λ before. inl (omega (arith, smaller, before))) (λ after. inr after) (room.apart k d l);
}

pub freed_bytes_are_there : FreedBytesAreThere
freed_bytes_are_there s b size h in' fits =
    let can = CanPlace-freed s b h in' in
    by (freed s b.address) can.few (room-less (freed s b.address) b.size (rounded size) b.address fits can.room) (place_for (freed s b.address) size) refl (place_for-place (freed s b.address) size)
  where
    by : (t : Space) → length t.blocks < block_limit → HasRoom t (rounded size) b.address → (r : Option ℕ) → place_for t size ≡ r → IsPlace t size r
        → (address : ℕ) × (place_for t size ≡ Some address) × (address ≤ b.address)
    by t few room None is (inl full) = absurd (omega (arith, full, few))
    by t few room None is (inr none) = absurd (none b.address room)
    by t few room (Some address) is place = (address, is, place.1.least b.address room)
