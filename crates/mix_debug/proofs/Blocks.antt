-- The heap before a step.
use Rattle.std.proofs.Common.{◌≡◌, ◌≢◌, inl, inr, ℕ, suc, ◌+◌, ◌<◌, ◌≤◌, ◌==◌, not, ◌||◌, true, false, List, [], ◌∷◌, length, get_or, drop, ltb, Some, None, arith, ap, sym, ◌∙◌, refl, ⊎_elim}
use Rattle.std.specs.Prelude.{All, AllPairs, filter}
use Rattle.std.specs.List.{Contains}
use Rattle.std.proofs.lemmas.Bool.{cases_Bool, cases_lt, eq-eqb, eqb-true, ne_eqb, le-ltb, lt-ltb}
use Rattle.std.proofs.lemmas.List.{drop_all, drop_more}
use Rattle.host_heap.specs.Place.{place_for, taken}
use Rattle.mix_debug.specs.inner.Reaches.{SameBlocks}
use Rattle.std.proofs.lemmas.List.Elements.{All-head, All-tail}
use Rattle.host_heap.specs.declared.block.Block.{Block}
use Rattle.host_heap.specs.Space.{Space, rounded}
use Rattle.host_heap.specs.laws.Place.{CanPlace}
use Rattle.host_heap.specs.Place.{begins_at, can_place, freed, placed, with_block, without}
use Rattle.host_heap.specs.Sound.{EndsBefore, IsAligned, IsSound}
use Rattle.host_heap.proofs.Keeps.{none_begins}
use Rattle.mixed_machine.specs.laws.StepLaws.{HeapMoves}
use Rattle.mix_debug.specs.declared.head.BlockChange.TheVariants.{Stays, Made, Freed}
use Rattle.mix_debug.specs.inner.Entries.{block_between, first_other}
use Rattle.mix_debug.specs.Entries.{heap_before}
use Rattle.mix_debug.proofs.Below.{AllPairs-head, AllPairs-tail, CanPlace-freed, CanPlace-got, IsPlace-from, can_place_from, filter_all, filter_none, freed-placed, placed-freed, taken-some}

-- blocks in order of address
abbrev Rising : List Block → Type 0
Rising [] = Unit {0}
Rising (b ∷ bs) = All (λ x. b.address < x.address) bs × Rising bs

rising-of : (bs : List Block) → AllPairs EndsBefore bs → All IsAligned bs → Rising bs
rising-of [] order sizes = tt
rising-of (b ∷ bs) order sizes = (
  λ k d l. let after = AllPairs-head EndsBefore b bs order k d l in let some = All-head IsAligned b bs sizes in omega (arith, after, some.2),
  rising-of bs (AllPairs-tail EndsBefore b bs order) (All-tail IsAligned b bs sizes),
)

other-same : (b : Block) (xs ys : List Block) → first_other (b ∷ xs) (b ∷ ys) ≡ first_other xs ys
unfolding first_other
other-same b xs ys = rw (eq-eqb b.address b.address refl) refl

other-here : (b c : Block) (xs ys : List Block) → b.address ≢ c.address → first_other (b ∷ xs) (c ∷ ys) ≡ Some b
unfolding first_other
other-here b c xs ys apart = rw (ne_eqb b.address c.address apart) refl

other-end : (b : Block) (xs : List Block) → first_other (b ∷ xs) [] ≡ Some b
unfolding first_other
other-end b xs = refl

-- a block that is put in between others, and found again
pub record PutIn (bs : List Block) (b : Block) : Type 0 where
  pub found : first_other (with_block bs b) bs ≡ Some b
  pub more : length (with_block bs b) ≡ suc (length bs)

put-above : (y b : Block) (ys : List Block) → y.address < b.address → with_block (y ∷ ys) b ≡ y ∷ with_block ys b
put-above y b ys low = rw (lt-ltb y.address b.address low, le-ltb b.address y.address (omega arith)) refl

put-below : (y b : Block) (ys : List Block) → b.address < y.address → All (λ x. y.address < x.address) ys → with_block (y ∷ ys) b ≡ b ∷ y ∷ ys
put-below y b ys high after =
    let none : filter (λ (x : Block). ltb x.address b.address) ys ≡ [] = filter_none (λ (x : Block). ltb x.address b.address) ys (λ k d l. let next = after k d l in le-ltb _ b.address (omega (arith, next))) in
    let all : filter (λ (x : Block). ltb b.address x.address) ys ≡ ys = filter_all (λ (x : Block). ltb b.address x.address) ys (λ k d l. let next = after k d l in lt-ltb b.address _ (omega (arith, next))) in
    rw (le-ltb y.address b.address (omega (arith, high)), lt-ltb b.address y.address high, none, all) refl

pub put-in : (bs : List Block) (b : Block) → Rising bs → All (λ x. x.address ≢ b.address) bs → PutIn bs b
put-in [] b rising other = record { found = other-end b []; more = refl }
put-in (y ∷ ys) b rising other =
    ⊎_elim
    (λ (low : y.address < b.address).
    let rest = put-in ys b rising.1 (All-tail (λ x. x.address ≢ b.address) y ys other) in
    let is : with_block (y ∷ ys) b ≡ y ∷ with_block ys b = put-above y b ys low in
    record { found = ap (λ zs. first_other zs (y ∷ ys)) is ∙ other-same y (with_block ys b) ys ∙ rest.found; more = ap length is ∙ ap suc rest.more })
    (λ (from : b.address ≤ y.address).
    let apart = All-head (λ x. x.address ≢ b.address) y ys other in
    let high : b.address < y.address = omega (arith, from, apart) in
    let is : with_block (y ∷ ys) b ≡ b ∷ y ∷ ys = put-below y b ys high rising.0 in
    record { found = ap (λ zs. first_other zs (y ∷ ys)) is ∙ other-here b y (y ∷ ys) ys (λ e. omega (arith, e, high)); more = ap length is })
    (cases_lt y.address b.address)

-- a block that is left out, and found
pub record LeftOut (bs : List Block) (a : ℕ) : Type 0 where
  pub block : Block
  pub found : first_other bs (without bs a) ≡ Some block
  pub place : block.address ≡ a
  pub among : Contains bs block
  pub fewer : length (without bs a) < length bs

other-behind : (y : Block) (ys : List Block) → All (λ x. y.address < x.address) ys → first_other (y ∷ ys) ys ≡ Some y
other-behind y [] after = other-end y []
other-behind y (z ∷ zs) after = other-here y z (z ∷ zs) zs (λ e. let next = All-head (λ x. y.address < x.address) z zs after in omega (arith, e, next))

left-here : (y : Block) (ys : List Block) (a : ℕ) → y.address ≡ a → All (λ x. y.address < x.address) ys → LeftOut (y ∷ ys) a
left-here y ys a at after =
    let kept : without ys a ≡ ys = filter_all (λ (x : Block). not (x.address == a)) ys (λ k d l. let next = after k d l in ap not (ne_eqb _ a (λ e. omega (arith, e, next, at)))) in
    let is : without (y ∷ ys) a ≡ ys = rw (eq-eqb y.address a at) kept in
    record {
      block = y;
      found = ap (first_other (y ∷ ys)) is ∙ other-behind y ys after;
      place = at;
      among = (0, omega arith, refl);
      fewer = omega (arith, ap length is);
    }

left-later : (y : Block) (ys : List Block) (a : ℕ) → (y.address == a) ≡ false → LeftOut ys a → LeftOut (y ∷ ys) a
left-later y ys a other rest =
    let is : without (y ∷ ys) a ≡ y ∷ without ys a = rw other refl in
    let fewer : length (without ys a) < length ys = rest.fewer in
    let here : rest.among.0 < length ys = rest.among.1 in
    record {
      block = rest.block;
      found = ap (first_other (y ∷ ys)) is ∙ other-same y ys (without ys a) ∙ rest.found;
      place = rest.place;
      among = (suc rest.among.0, omega (arith, here), rest.among.2);
      fewer = omega (arith, ap length is, fewer);
    }

pub left-out : (bs : List Block) (a : ℕ) → Rising bs → begins_at bs a ≡ true → LeftOut bs a
left-out [] a rising there = absurd (let e : false ≡ true = there in cc)
left-out (y ∷ ys) a rising there =
    elim (cases_Bool (y.address == a)) [
      | inl here ↦ left-here y ys a (eqb-true y.address a here) rising.0
      | inr later ↦ left-later y ys a later (left-out ys a rising.1 (ap (λ b. b || begins_at ys a) (sym later) ∙ there))
    ]

-- what a step did to the blocks, by their lists
between-same : (old new : List Block) → length new ≡ length old → block_between old new ≡ Stays
between-same old new same = rw (eq-eqb (length new) (length old) same) refl

between-more : (old new : List Block) (b : Block) → length old < length new → first_other new old ≡ Some b → block_between old new ≡ Made b
between-more old new b more found = rw (ne_eqb (length new) (length old) (λ e. omega (arith, e, more)), lt-ltb (length old) (length new) more, found) refl

between-fewer : (old new : List Block) (b : Block) → length new < length old → first_other old new ≡ Some b → block_between old new ≡ Freed b
between-fewer old new b fewer found = rw (ne_eqb (length new) (length old) (λ e. omega (arith, e, fewer)), le-ltb (length old) (length new) (omega (arith, fewer)), found) refl

-- a block that is placed is found
pub record PlacedIn (old : Space) (size a : ℕ) : Type 0 where
  pub between : block_between old.blocks (placed old size a).blocks ≡ Made (record { address = a; size = size })
  pub more : length (placed old size a).blocks ≡ suc (length old.blocks)

placed-in : (old : Space) (size a : ℕ) → IsSound old → CanPlace old size a → PlacedIn old size a
placed-in old size a sound can =
    let b : Block = record { address = a; size = size } in
    let it = put-in old.blocks b (rising-of old.blocks sound.apart sound.aligned) (none_begins old size a sound can.least can.room) in
    record { between = between-more old.blocks (with_block old.blocks b) b (omega (arith, it.more)) it.found; more = it.more }

heap-made : (old : Space) (size a : ℕ) → IsSound old → CanPlace old size a → heap_before (block_between old.blocks (placed old size a).blocks) (placed old size a) ≡ old
heap-made old size a sound can =
    ap (λ c. heap_before c (placed old size a)) (placed-in old size a sound can).between ∙ freed-placed old size a sound can

taken-is : (old : Space) (size a : ℕ) → place_for old size ≡ Some a → taken old size ≡ placed old (rounded size) a
taken-is old size a found = sym (taken-some old size (rounded size) a refl (sym found))

taken-in : (old : Space) (size a : ℕ) → IsSound old → place_for old size ≡ Some a → PlacedIn old (rounded size) a
taken-in old size a sound found =
    let place = IsPlace-from old size (Some a) (sym found) in
    placed-in old (rounded size) a sound (CanPlace-got old size a sound place.0 place.1)

pub block-made : (old new : Space) (size a : ℕ) → IsSound old → place_for old size ≡ Some a → new ≡ taken old size
    → block_between old.blocks new.blocks ≡ Made (record { address = a; size = rounded size })
block-made old new size a sound found is =
    ap (λ (s : Space). block_between old.blocks s.blocks) (is ∙ taken-is old size a found) ∙ (taken-in old size a sound found).between

-- where there are as many blocks they are the same
pub blocks-same : (old new : Space) → IsSound old → HeapMoves old new → SameBlocks old.blocks new.blocks
blocks-same old new sound (inl same) equal = ap (λ (s : Space). s.blocks) same
blocks-same old new sound (inr (inl made)) equal =
    let is : new ≡ placed old (rounded made.0) made.1 = made.3 ∙ taken-is old made.0 made.1 made.2 in
    let more = (taken-in old made.0 made.1 sound made.2).more in
    absurd (omega (arith, equal, ap (λ (s : Space). length s.blocks) is, more))
blocks-same old new sound (inr (inr gone)) equal =
    let fewer = (left-out old.blocks gone.0 (rising-of old.blocks sound.apart sound.aligned) gone.1).fewer in
    absurd (omega (arith, equal, ap (λ (s : Space). length s.blocks) gone.2, fewer))

heap-freed : (old : Space) (a : ℕ) → IsSound old → begins_at old.blocks a ≡ true → heap_before (block_between old.blocks (freed old a).blocks) (freed old a) ≡ old
heap-freed old a sound there =
    let it = left-out old.blocks a (rising-of old.blocks sound.apart sound.aligned) there in
    let change : block_between old.blocks (without old.blocks a) ≡ Freed it.block = between-fewer old.blocks (without old.blocks a) it.block it.fewer it.found in
    let can : can_place (freed old it.block.address) it.block.size it.block.address ≡ true = can_place_from (freed old it.block.address) it.block.size it.block.address (CanPlace-freed old it.block sound it.among) in
    ap (λ c. heap_before c (freed old a)) change ∙ ap (λ n. heap_before (Freed it.block) (freed old n)) (sym it.place) ∙ (rw can (placed-freed old it.block sound it.among))

pub heap-back : (old new : Space) → IsSound old → HeapMoves old new → heap_before (block_between old.blocks new.blocks) new ≡ old
heap-back old new sound moves =
    elim moves [
      | inl same ↦ ap (λ c. heap_before c new) (between-same old.blocks new.blocks (ap (λ (s : Space). length s.blocks) same)) ∙ same
      | inr other ↦ elim other [
        | inl made ↦
            let place = IsPlace-from old made.0 (Some made.1) (sym made.2) in
            let is : new ≡ placed old (rounded made.0) made.1 = made.3 ∙ sym (taken-some old made.0 (rounded made.0) made.1 refl (sym made.2)) in
            ap (λ (s : Space). heap_before (block_between old.blocks s.blocks) s) is ∙ heap-made old (rounded made.0) made.1 sound (CanPlace-got old made.0 made.1 sound place.0 place.1)
        | inr gone ↦ ap (λ (s : Space). heap_before (block_between old.blocks s.blocks) s) gone.2 ∙ heap-freed old gone.0 sound gone.1
      ]
    ]

-- the walk along two lists of blocks
pub first-step : (at : ℕ) (xs ys : List Block) (d : Block) → at < length xs → at < length ys → (get_or xs at d).address ≡ (get_or ys at d).address
    → first_other (drop at xs) (drop at ys) ≡ first_other (drop (at + 1) xs) (drop (at + 1) ys)
unfolding first_other
first-step at xs ys d here there same =
    rw (drop_more xs at d here, drop_more ys at d there, eq-eqb (get_or xs at d).address (get_or ys at d).address same) refl

pub first-apart : (at : ℕ) (xs ys : List Block) (d : Block) → at < length xs → at < length ys → ((get_or xs at d).address ≡ (get_or ys at d).address → ⊥)
    → Some (get_or xs at d) ≡ first_other (drop at xs) (drop at ys)
unfolding first_other
first-apart at xs ys d here there apart =
    rw (drop_more xs at d here, drop_more ys at d there, ne_eqb (get_or xs at d).address (get_or ys at d).address apart) refl

pub first-end : (at : ℕ) (xs ys : List Block) (d : Block) → at < length xs → length ys ≤ at → Some (get_or xs at d) ≡ first_other (drop at xs) (drop at ys)
unfolding first_other
first-end at xs ys d here end = rw (drop_more xs at d here, drop_all at ys end) refl

pub first-none : (at : ℕ) (xs ys : List Block) → length xs ≤ at → None ≡ first_other (drop at xs) (drop at ys)
unfolding first_other
first-none at xs ys end = rw (drop_all at xs end) refl
