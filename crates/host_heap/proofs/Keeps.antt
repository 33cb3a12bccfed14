-- every change keeps a heap sound
use Rattle.std.proofs.Common.{ℕ, ◌≡◌, ◌+◌, ◌-◌, ◌*◌, ◌/◌, ◌%◌, ◌<◌, ◌≤◌, Bool, false, not, Option, Some, None, List, ◌∷◌, length, max, inl, inr, ⊎_elim, sym, ap, ◌∙◌, subst, arith}
use Rattle.std.specs.Prelude.{◌==◌, nat_lt, All, filter}
use Rattle.std.proofs.Math.Nat.{mul-mod_left}
use Rattle.std.proofs.lemmas.Bool.{ltb-true, le-ltb}
use Rattle.std.proofs.lemmas.List.{length-append}
use Rattle.std.proofs.lemmas.List.Elements.{All-cons, All-append, All-filter, filter_passes}
use Rattle.std.proofs.lemmas.List.Kept.{AllPairs-cons, AllPairs-filter}
use Rattle.host_heap.specs.declared.block.Block.{Block}
use Rattle.host_heap.specs.Space.{Space, block_limit, rounded}
use Rattle.host_heap.specs.SpaceClauses.{IsApart, HasRoom, IsLowest}
use Rattle.host_heap.specs.laws.Place.{CanPlace}
use Rattle.host_heap.specs.PlaceClauses.{IsPlace}
use Rattle.host_heap.specs.Place.{place_for, lowest_fit, placed, placed_where, taken, begins_at, freed}
use Rattle.host_heap.specs.Sound.{IsInside, IsAligned, EndsBefore, IsSound}
use Rattle.host_heap.specs.laws.Laws.{RoomBeginsNone}
use Rattle.host_heap.proofs.Lowest.{place_for-place, IsLowest-from}
use Rattle.host_heap.proofs.Order.{AllPairs-append, length-filter_two, length-filter-le, filter_out_none}

pub IsSound-freed : (s : Space) (address : ℕ) → IsSound s → IsSound (freed s address)
IsSound-freed s address h = record {
  low = h.low;
  high = h.high;
  order = h.order;
  inside = All-filter (λ b. not (b.address == address)) (IsInside s) s.blocks h.inside;
  aligned = All-filter (λ b. not (b.address == address)) IsAligned s.blocks h.aligned;
  apart = AllPairs-filter EndsBefore (λ b. not (b.address == address)) s.blocks h.apart;
  count = let less = length-filter-le (λ b. not (b.address == address)) s.blocks in let most = h.count in omega arith;
}

-- where no block begins, nothing changes
pub freed-none : (s : Space) (address : ℕ) → begins_at s.blocks address ≡ false → freed s address ≡ s
freed-none s address h = ap (λ bs. record s { blocks = bs }) (filter_out_none (λ b. b.address == address) s.blocks h)

-- an address that is rounded down passes the ends and beginnings of blocks that lie at multiples of 8
down_passes : (e a : ℕ) → e % 8 ≡ 0 → e ≤ a → e ≤ a - a % 8
down_passes e a h l = omega arith

-- the lowest address is rounded, since the address below it that is rounded fits too
pub IsLowest-aligned : (s : Space) (size address : ℕ) → IsSound s → IsLowest s size address → address % 8 ≡ 0
IsLowest-aligned s size address h low =
    let room = low.room in
    let even = h.low in
    let down : HasRoom s size (address - address % 8) = record {
      above = down_passes s.low address (omega arith) room.above;
      below = let high = room.below in omega arith;
      apart = λ k d l. ⊎_elim
          (λ e. inl (omega arith))
          (λ e. inr (down_passes _ address (let whole = h.aligned k d l in omega (arith, whole.0, whole.1)) e))
          (room.apart k d l);
    } in
    let least = low.least (address - address % 8) down in omega arith

pub rounded-aligned : (size : ℕ) → rounded size % 8 ≡ 0
rounded-aligned size =
    let whole : ((size + 7) / 8 * 8) % 8 ≡ 0 = mul-mod_left ((size + 7) / 8) 8 in eight_or _ whole
  where
    eight_or : (n : ℕ) → n % 8 ≡ 0 → max 8 n % 8 ≡ 0
    eight_or n h = omega arith

pub rounded-least : (size : ℕ) → 8 ≤ rounded size
rounded-least size = omega arith

-- a new block in room of its own
pub IsSound-placed : (s : Space) (size address : ℕ) → IsSound s → CanPlace s size address → IsSound (placed s size address)
IsSound-placed s size address h can =
    record {
      low = h.low;
      high = h.high;
      order = h.order;
      inside = All-append (IsInside s) below (new ∷ above) (All-filter is_below (IsInside s) s.blocks h.inside) (All-cons (IsInside s) new above (can.room.above, can.room.below) (All-filter is_above (IsInside s) s.blocks h.inside));
      aligned = All-append IsAligned below (new ∷ above) (All-filter is_below IsAligned s.blocks h.aligned) (All-cons IsAligned new above (can.even, can.whole, can.least) (All-filter is_above IsAligned s.blocks h.aligned));
      apart = AllPairs-append EndsBefore below (new ∷ above)
          (AllPairs-filter EndsBefore is_below s.blocks h.apart)
          (AllPairs-cons EndsBefore new above over (AllPairs-filter EndsBefore is_above s.blocks h.apart))
          (λ k d l. All-cons (EndsBefore _) new above (under k d l) (λ j e m. let one = under k d l in let two = over j e m in omega arith));
      count =
          let two = length-filter_two is_below is_above (λ b e. let l = ltb-true b.address address e in le-ltb address b.address (omega arith)) s.blocks in
          omega (arith, length-append below (new ∷ above));
    }
  where
    new : Block
    new = record { address = address; size = size }

    is_below : Block → Bool
    is_below b = nat_lt b.address address

    is_above : Block → Bool
    is_above b = nat_lt address b.address

    below : List Block
    below = filter is_below s.blocks

    above : List Block
    above = filter is_above s.blocks

    under : All (λ b. EndsBefore b new) below
    under = λ k d l.
        let low = ltb-true _ address (filter_passes is_below s.blocks k d l) in
        ⊎_elim (λ e. absurd (omega arith)) (λ e. e) (All-filter is_below (IsApart size address) s.blocks can.room.apart k d l)

    over : All (EndsBefore new) above
    over = λ k d l.
        let high = ltb-true address _ (filter_passes is_above s.blocks k d l) in
        ⊎_elim (λ e. e) (λ e. absurd (omega arith)) (All-filter is_above (IsApart size address) s.blocks can.room.apart k d l)

-- the block that `get` makes may be placed
pub CanPlace-got : (s : Space) (size address : ℕ) → IsSound s → length s.blocks < block_limit → IsLowest s (rounded size) address → CanPlace s (rounded size) address
CanPlace-got s size address h few low = record {
  few = few;
  whole = rounded-aligned size;
  least = rounded-least size;
  even = IsLowest-aligned s (rounded size) address h low;
  room = low.room;
}

IsSound-where : (s : Space) (size : ℕ) → (r : Option ℕ) → IsSound s → IsPlace s size r → IsSound (placed_where s (rounded size) r)
IsSound-where s size None h place = h
IsSound-where s size (Some address) h place = IsSound-placed s (rounded size) address h (CanPlace-got s size address h place.0 place.1)

pub IsSound-taken : (s : Space) (size : ℕ) → IsSound s → IsSound (taken s size)
IsSound-taken s size h = IsSound-where s size (place_for s size) h (place_for-place s size)

-- no block begins where a new one goes
pub none_begins : RoomBeginsNone
none_begins s size address h least room = λ k d l e.
    let whole = h.aligned k d l in ⊎_elim (λ before. omega (arith, e, before)) (λ after. omega (arith, e, after, whole.2)) (room.apart k d l)

-- the same, with the size as the code has it
pub CanPlace-found : (s : Space) (size wide address : ℕ) → IsSound s → length s.blocks < block_limit → wide ≡ rounded size → Some address ≡ lowest_fit s wide → CanPlace s wide address
CanPlace-found s size wide address h few e lowest =
    let P : ℕ → Type 0 = λ n. CanPlace s n address in
    subst P (sym e) (CanPlace-got s size address h few (IsLowest-from s (rounded size) address (lowest ∙ ap (lowest_fit s) e)))

-- what `get` leaves, by its answer
pub taken-none : (s : Space) (size : ℕ) → None ≡ place_for s size → s ≡ taken s size
taken-none s size e = ap (placed_where s (rounded size)) e

pub taken-some : (s : Space) (size wide address : ℕ) → wide ≡ rounded size → Some address ≡ place_for s size → placed s wide address ≡ taken s size
taken-some s size wide address e place =
    ap (λ (n : ℕ). placed s n address) e ∙ ap (placed_where s (rounded size)) place
