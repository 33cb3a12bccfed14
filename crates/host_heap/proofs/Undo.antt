-- a block that was made and given up, or given up and placed again, leaves the heap as it was
use Rattle.std.proofs.Common.{ℕ, zero, suc, ◌≡◌, ◌≢◌, ◌+◌, ◌<◌, ◌≤◌, Bool, not, Some, List, [], ◌∷◌, ◌++◌, length, get_or, ltb, refl, sym, ap, ◌∙◌, subst, ⊎_elim, inl, inr, arith}
use Rattle.std.specs.Prelude.{◌==◌, All, AllPairs, filter}
use Rattle.std.specs.List.{Contains}
use Rattle.std.proofs.lemmas.Bool.{both_ways, cases_lt, lt-ltb, le-ltb, ne_eqb, eq-eqb}
use Rattle.std.proofs.lemmas.List.{get_or_default, length-append}
use Rattle.std.proofs.lemmas.List.Elements.{All-head, All-tail, All-filter, filter-append, filter_passes}
use Rattle.host_heap.specs.declared.block.Block.{Block}
use Rattle.host_heap.specs.Space.{Space, rounded}
use Rattle.host_heap.specs.SpaceClauses.{IsApart}
use Rattle.host_heap.specs.laws.Place.{CanPlace}
use Rattle.host_heap.specs.PlaceClauses.{IsPlace}
use Rattle.host_heap.specs.Place.{with_block, without, placed, taken, freed}
use Rattle.host_heap.specs.Sound.{IsInside, IsAligned, EndsBefore, IsSound}
use Rattle.host_heap.proofs.Order.{AllPairs-head, AllPairs-tail, filter_all, filter_none}
use Rattle.host_heap.proofs.Lowest.{place_from}
use Rattle.host_heap.proofs.Keeps.{CanPlace-got, IsSound-freed, none_begins, taken-some}

-- the blocks below an address and those above it are all, where none begins there
below_and_above : (address : ℕ) (blocks : List Block) → AllPairs EndsBefore blocks → All (λ b. b.address ≢ address) blocks → filter (λ b. ltb b.address address) blocks ++ filter (λ b. ltb address b.address) blocks ≡ blocks
below_and_above address [] order other = refl
below_and_above address (b ∷ bs) order other =
    let rest = below_and_above address bs (AllPairs-tail EndsBefore b bs order) (All-tail (λ x. x.address ≢ address) b bs other) in
    ⊎_elim
    (λ (low : b.address < address). rw (lt-ltb b.address address low, le-ltb address b.address (omega arith)) (ap (λ xs. b ∷ xs) rest))
    (λ (high : address ≤ b.address).
    let here = All-head (λ x. x.address ≢ address) b bs other in
    let after = AllPairs-head EndsBefore b bs order in
    let none = filter_none (λ (x : Block). ltb x.address address) bs (λ k d l. let next = after k d l in le-ltb _ address (omega arith)) in
    let all = filter_all (λ (x : Block). ltb address x.address) bs (λ k d l. let next = after k d l in lt-ltb address _ (omega arith)) in
    rw (le-ltb b.address address high, lt-ltb address b.address (omega arith), none, all) refl)
    (cases_lt b.address address)

-- a filter that keeps all but the new block
without-with_block : (blocks : List Block) (new : Block) → AllPairs EndsBefore blocks → All (λ b. b.address ≢ new.address) blocks → without (with_block blocks new) new.address ≡ blocks
without-with_block blocks new order other =
    filter-append elsewhere below (new ∷ above)
    ∙ ap (λ xs. xs ++ filter elsewhere (new ∷ above)) (filter_all elsewhere below (λ k d l. ap not (ne_eqb _ _ (All-filter is_below apart blocks other k d l))))
    ∙ ap (λ xs. below ++ xs) (rw (eq-eqb new.address new.address refl) (filter_all elsewhere above (λ k d l. ap not (ne_eqb _ _ (All-filter is_above apart blocks other k d l)))))
    ∙ below_and_above new.address blocks order other
  where
    elsewhere : Block → Bool
    elsewhere b = not (b.address == new.address)

    apart : Block → Type 0
    apart b = b.address ≢ new.address

    is_below : Block → Bool
    is_below b = ltb b.address new.address

    is_above : Block → Bool
    is_above b = ltb new.address b.address

    below : List Block
    below = filter is_below blocks

    above : List Block
    above = filter is_above blocks

pub freed-placed : (s : Space) (size address : ℕ) → IsSound s → CanPlace s size address → freed (placed s size address) address ≡ s
freed-placed s size address h can =
    ap (λ (bs : List Block). record s { blocks = bs })
    (without-with_block s.blocks (record { address = address; size = size }) h.apart (none_begins s size address h can.least can.room))

pub freed-taken : (s : Space) (size address : ℕ) → IsSound s → IsPlace s size (Some address) → freed (taken s size) address ≡ s
freed-taken s size address h place =
    let made = taken-some s size (rounded size) address refl (place_from s size (Some address) place) in
    ap (λ (t : Space). freed t address) (sym made) ∙ freed-placed s (rounded size) address h (CanPlace-got s size address h place.0 place.1)

-- blocks in order, each of some bytes
record IsRow (blocks : List Block) : Type 0 where
  order : AllPairs EndsBefore blocks
  some : All (λ b. 0 < b.size) blocks

row-tail : (b : Block) (bs : List Block) → IsRow (b ∷ bs) → IsRow bs
row-tail b bs row = record { order = AllPairs-tail EndsBefore b bs row.order; some = All-tail (λ x. 0 < x.size) b bs row.some }

-- the blocks behind the first one begin above it
above-first : (b : Block) (bs : List Block) → IsRow (b ∷ bs) → All (λ x. b.address < x.address) bs
above-first b bs row = λ k d l.
    let after = AllPairs-head EndsBefore b bs row.order k d l in
    let some = All-head (λ x. 0 < x.size) b bs row.some in omega arith

-- a block that is left out goes in again at its place
with_block-first : (b : Block) (bs : List Block) → IsRow (b ∷ bs) → with_block (without (b ∷ bs) b.address) b ≡ b ∷ bs
with_block-first b bs row =
    let after = above-first b bs row in
    let kept : without bs b.address ≡ bs = filter_all (λ (x : Block). not (x.address == b.address)) bs (λ k d l. let next = after k d l in ap not (ne_eqb _ _ (λ e. omega (arith, e, next)))) in
    let below : filter (λ (x : Block). ltb x.address b.address) bs ≡ [] = filter_none (λ (x : Block). ltb x.address b.address) bs (λ k d l. let next = after k d l in le-ltb _ b.address (omega arith)) in
    let above : filter (λ (x : Block). ltb b.address x.address) bs ≡ bs = filter_all (λ (x : Block). ltb b.address x.address) bs (λ k d l. lt-ltb b.address _ (after k d l)) in
    rw (eq-eqb b.address b.address refl, kept, below, above) refl

with_block-later : (x b : Block) (bs : List Block) → x.address < b.address → with_block (without (x ∷ bs) b.address) b ≡ x ∷ with_block (without bs b.address) b
with_block-later x b bs low =
    rw (ne_eqb x.address b.address (λ e. omega (arith, e, low)), lt-ltb x.address b.address low, le-ltb b.address x.address (omega arith)) refl

with_block-again : (bs : List Block) (b : Block) (k : ℕ) → IsRow bs → k < length bs → get_or bs k b ≡ b → with_block (without bs b.address) b ≡ bs
with_block-again [] b k row within is = absurd (omega arith)
with_block-again (x ∷ bs) b zero row within is =
    subst (λ (c : Block). with_block (without (x ∷ bs) c.address) c ≡ x ∷ bs) is (with_block-first x bs row)
with_block-again (x ∷ bs) b (suc k) row within is =
    let inner : k < length bs = omega arith in
    let next = above-first x bs row k b inner in
    let low : x.address < b.address = subst (λ (c : Block). x.address < c.address) is next in
    with_block-later x b bs low ∙ ap (λ ys. x ∷ ys) (with_block-again bs b k (row-tail x bs row) inner is)

row-of : (s : Space) → IsSound s → IsRow s.blocks
row-of s h = record { order = h.apart; some = λ k d l. let whole = h.aligned k d l in omega (arith, whole.2) }

pub placed-freed : (s : Space) (b : Block) → IsSound s → Contains s.blocks b → placed (freed s b.address) b.size b.address ≡ s
placed-freed s b h in' =
    ap (λ (bs : List Block). record s { blocks = bs }) (with_block-again s.blocks b in'.0 (row-of s h) in'.1 in'.2)

-- all blocks but the one that is given up lie apart from it
apart-others : (s : Space) (b : Block) → IsSound s → (k : ℕ) → k < length s.blocks → get_or s.blocks k b ≡ b → All (λ x. x.address ≢ b.address → IsApart b.size b.address x) s.blocks
apart-others s b h k within is = λ j d l other.
    let same : get_or s.blocks k d ≡ b = get_or_default s.blocks k d b within ∙ is in
    ⊎_elim
    (λ (before : j < k). let next = h.apart j k d before within in inr (omega (arith, next, ap (λ (c : Block). c.address) same)))
    (λ (from : k ≤ j). ⊎_elim
    (λ (after : k < j). let next = h.apart k j d after l in inl (omega (arith, next, ap (λ (c : Block). c.address) same, ap (λ (c : Block). c.size) same)))
    (λ (to : j ≤ k). let at : j ≡ k = omega arith in absurd (other (ap (λ (i : ℕ). (get_or s.blocks i d).address) at ∙ ap (λ (c : Block). c.address) same)))
    (cases_lt k j))
    (cases_lt j k)

-- one block fewer
one_fewer : (blocks : List Block) (new : Block) → AllPairs EndsBefore blocks → All (λ b. b.address ≢ new.address) blocks → length (with_block blocks new) ≡ length blocks + 1
one_fewer blocks new order other =
    omega (
      arith,
      length-append (filter (λ b. ltb b.address new.address) blocks) (new ∷ filter (λ b. ltb new.address b.address) blocks),
      length-append (filter (λ b. ltb b.address new.address) blocks) (filter (λ b. ltb new.address b.address) blocks),
      ap length (below_and_above new.address blocks order other),
    )

others-begin : (blocks : List Block) (address : ℕ) → All (λ b. b.address ≢ address) (without blocks address)
others-begin blocks address = λ k d l e.
    both_ways _ (ap not (eq-eqb _ _ e)) (filter_passes (λ (b : Block). not (b.address == address)) blocks k d l)

pub CanPlace-freed : (s : Space) (b : Block) → IsSound s → Contains s.blocks b → CanPlace (freed s b.address) b.size b.address
CanPlace-freed s b h in' =
    let whole : IsAligned b = subst IsAligned in'.2 (h.aligned in'.0 b in'.1) in
    let inside : IsInside s b = subst (IsInside s) in'.2 (h.inside in'.0 b in'.1) in
    let gone : IsSound (freed s b.address) = IsSound-freed s b.address h in
    let apart = apart-others s b h in'.0 in'.1 in'.2 in
    let others = others-begin s.blocks b.address in
    record {
      few =
          let back = with_block-again s.blocks b in'.0 (row-of s h) in'.1 in'.2 in
          let more = one_fewer (without s.blocks b.address) b gone.apart others in
          let most = h.count in omega (arith, ap length back, more, most);
      whole = whole.1;
      least = whole.2;
      even = whole.0;
      room = record {
        above = inside.0;
        below = inside.1;
        apart = λ k d l. All-filter (λ (x : Block). not (x.address == b.address)) (λ x. x.address ≢ b.address → IsApart b.size b.address x) s.blocks apart k d l (others k d l);
      };
    }
