-- What the crates below say of heaps and of frames, as a step back needs it.
use Rattle.std.proofs.Common.{◌≡◌, ℕ, suc, ◌<◌, ◌≤◌, Bool, true, false, Option, Some, List, [], ◌∷◌, length, arith, ap, sym, ◌∙◌, refl}
use Rattle.std.specs.Prelude.{All, AllPairs, filter}
use Rattle.std.specs.List.{Contains}
use Rattle.std.proofs.lemmas.List.Elements.{All-head, All-tail}
use Rattle.big_memory.specs.Memory.{IsRam, Memory}
use Rattle.host_heap.specs.declared.block.Block.{Block}
use Rattle.host_heap.specs.SpaceClauses.{IsLowest}
use Rattle.host_heap.specs.Space.{Space, block_limit, rounded}
use Rattle.host_heap.specs.laws.Place.{CanPlace}
use Rattle.host_heap.specs.PlaceClauses.{IsPlace}
use Rattle.host_heap.specs.Place.{can_place, freed, place_for, placed, placed_where, taken}
use Rattle.host_heap.specs.Sound.{IsSound}
use Rattle.host_heap.proofs.Fits.{places_are_tested}
use Rattle.host_heap.proofs.Placing.{freeing_undoes_placing, place_is_unique, placing_undoes_freeing, taking_places}
use Rattle.switch_frame.specs.Records.{Record}
use Rattle.switch_frame.specs.laws.Chain.{Above}
use Rattle.switch_frame.specs.Chain.{Frames, IsInside}
use Rattle.switch_frame.proofs.Linked.{frames_above}

-- lists in order
pub AllPairs-head : {X : Type 0} (R : X → X → Type 0) → (x : X) (xs : List X) → AllPairs R (x ∷ xs) → All (R x) xs
AllPairs-head R x xs h = λ k d l. h 0 (suc k) d (omega arith) (omega arith)

pub AllPairs-tail : {X : Type 0} (R : X → X → Type 0) → (x : X) (xs : List X) → AllPairs R (x ∷ xs) → AllPairs R xs
AllPairs-tail R x xs h = λ i j d l k. h (suc i) (suc j) d (omega arith) (omega arith)

-- filters that keep all, or none
pub filter_all : {X : Type 0} (p : X → Bool) → (xs : List X) → All (λ x. p x ≡ true) xs → filter p xs ≡ xs
filter_all p [] h = refl
filter_all p (x ∷ xs) h =
    let here = All-head (λ z. p z ≡ true) x xs h in
    rw here (ap (λ zs. x ∷ zs) (filter_all p xs (All-tail (λ z. p z ≡ true) x xs h)))

pub filter_none : {X : Type 0} (p : X → Bool) → (xs : List X) → All (λ x. p x ≡ false) xs → filter p xs ≡ []
filter_none p [] h = refl
filter_none p (x ∷ xs) h =
    let here = All-head (λ z. p z ≡ false) x xs h in
    rw here (filter_none p xs (All-tail (λ z. p z ≡ false) x xs h))

-- what `get` answers and leaves
pub IsPlace-from : (s : Space) (size : ℕ) (r : Option ℕ) → r ≡ place_for s size → IsPlace s size r
IsPlace-from s size r is = (place_is_unique s size r).0 is

pub taken-some : (s : Space) (size wide address : ℕ) → wide ≡ rounded size → Some address ≡ place_for s size → placed s wide address ≡ taken s size
taken-some s size wide address same is = ap (λ (n : ℕ). placed s n address) same ∙ ap (placed_where s (rounded size)) is

-- where blocks may be placed, and what placing them and giving them up leaves
pub can_place_from : (s : Space) (size address : ℕ) → CanPlace s size address → can_place s size address ≡ true
can_place_from s size address can = (places_are_tested s size address).1 can

pub CanPlace-got : (s : Space) (size address : ℕ) → IsSound s → length s.blocks < block_limit → IsLowest s (rounded size) address → CanPlace s (rounded size) address
CanPlace-got s size address sound few low =
    let is : Some address ≡ place_for s size = (place_is_unique s size (Some address)).1 (few, low) in
    (places_are_tested s (rounded size) address).0 (taking_places s size address sound (sym is)).0

pub CanPlace-freed : (s : Space) (b : Block) → IsSound s → Contains s.blocks b → CanPlace (freed s b.address) b.size b.address
CanPlace-freed s b sound there = (places_are_tested (freed s b.address) b.size b.address).0 (placing_undoes_freeing s b sound there).0

pub freed-placed : (s : Space) (size address : ℕ) → IsSound s → CanPlace s size address → freed (placed s size address) address ≡ s
freed-placed s size address sound can = freeing_undoes_placing s size address sound (can_place_from s size address can)

pub placed-freed : (s : Space) (b : Block) → IsSound s → Contains s.blocks b → placed (freed s b.address) b.size b.address ≡ s
placed-freed s b sound there = (placing_undoes_freeing s b sound there).1

-- the frames outside a frame of a memory
pub len-ram : (m : Memory) → IsRam m → 131072 ≤ length m.bytes
len-ram m ram = ram.least

pub frames-above : (len : ℕ) (bytes : List ℕ) (r : Record) (rs : List Record) → 131072 ≤ len → IsInside r rs → Frames len bytes rs → Above r.hi rs
frames-above len bytes r rs least inside frames = frames_above len bytes r rs inside frames
