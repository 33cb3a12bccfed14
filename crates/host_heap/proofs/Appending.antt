-- A block that stands behind the last one stands behind all others.
use Rattle.std.proofs.Common.{◌≡◌, ℕ, ◌+◌, ◌-◌, ◌<◌, ◌≤◌, nat_le, Bool, true, false, inr, List, [], ◌∷◌, length, Some, None, refl, sym, ap, ◌∙◌, arith}
use Rattle.std.specs.List.{slice_get}
use Rattle.std.specs.Prelude.{All, AllPairs}
use Rattle.std.proofs.lemmas.Bool.{and_from, and_parts, leb-true, le-leb, eqb-true, eq-eqb}
use Rattle.std.proofs.lemmas.List.Elements.{All-head, All-tail, All-cons}
use Rattle.std.proofs.lemmas.List.Sums.{list_all-from_AllPass}
use Rattle.host_heap.specs.declared.block.Block.{Block}
use Rattle.host_heap.specs.Space.{Space, block_limit}
use Rattle.host_heap.specs.Place.{can_append, can_place, is_behind}
use Rattle.host_heap.specs.laws.Place.{last_end, may_follow}
use Rattle.host_heap.specs.Sound.{EndsBefore, IsSound}
use Rattle.host_heap.specs.laws.Laws.{LastTells}
use Rattle.host_heap.proofs.Fits.{CanPlace-from_test, can_place_from}
use Rattle.host_heap.proofs.Order.{AllPairs-head, AllPairs-tail}
use Rattle.host_heap.proofs.Placing.{behind-all}

-- two tests that pass alike are the same
same-test : (a b : Bool) → (a ≡ true → b ≡ true) → (b ≡ true → a ≡ true) → a ≡ b
same-test true b there back = sym (there refl)
same-test false true there back = back refl
same-test false false there back = refl

ends-by : (blocks : List Block) (low address : ℕ) → low ≤ address → All (λ b. b.address + b.size ≤ address) blocks → last_end low blocks ≤ address
unfolding last_end
ends-by [] low address above behind = above
ends-by (b ∷ bs) low address above behind =
    ends-by bs (b.address + b.size) address (All-head (λ x. x.address + x.size ≤ address) b bs behind) (All-tail (λ x. x.address + x.size ≤ address) b bs behind)

-- the last block ends behind all others
record IsLastEnd (low : ℕ) (blocks : List Block) : Type 0 where
  least : low ≤ last_end low blocks
  behind : All (λ b. b.address + b.size ≤ last_end low blocks) blocks

last-ends : (blocks : List Block) (low : ℕ) → All (λ b. low ≤ b.address) blocks → AllPairs EndsBefore blocks → IsLastEnd low blocks
unfolding last_end
last-ends [] low inside order = record { least = omega arith; behind = λ k d l. absurd (omega arith) }
last-ends (b ∷ bs) low inside order =
    let rest : IsLastEnd (b.address + b.size) bs = last-ends bs (b.address + b.size) (AllPairs-head EndsBefore b bs order) (AllPairs-tail EndsBefore b bs order) in
    let here : low ≤ b.address = All-head (λ x. low ≤ x.address) b bs inside in
    record { least = omega (arith, rest.least); behind = All-cons (λ x. x.address + x.size ≤ last_end (b.address + b.size) bs) b bs rest.least rest.behind }

-- the last block tells whether one more may stand behind all
can-stand : (s : Space) (size address : ℕ) → can_append s size address ≡ true → may_follow (last_end s.low s.blocks) s.high size address ≡ true
can-stand s size address is =
    let parts = and_parts (is_behind s.blocks address) (can_place s size address) is in
    let can = CanPlace-from_test s size address parts.1 in
    let behind = ends-by s.blocks s.low address can.room.above (behind-all s.blocks address parts.0) in
    and_from _ _ (eq-eqb _ _ can.whole) (and_from _ _ (le-leb _ _ can.least) (and_from _ _ (eq-eqb _ _ can.even) (and_from _ _ (le-leb _ _ behind) (le-leb _ _ can.room.below))))

can-append : (s : Space) (size address : ℕ) → IsSound s → length s.blocks < block_limit → may_follow (last_end s.low s.blocks) s.high size address ≡ true → can_append s size address ≡ true
can-append s size address h few is =
    let whole = and_parts _ _ is in
    let least = and_parts _ _ whole.1 in
    let even = and_parts _ _ least.1 in
    let last = and_parts _ _ even.1 in
    let end : last_end s.low s.blocks ≤ address = leb-true _ _ last.0 in
    let ends : IsLastEnd s.low s.blocks = last-ends s.blocks s.low (λ k d l. (h.inside k d l).0) h.apart in
    let behind : All (λ b. b.address + b.size ≤ address) s.blocks = λ k d l. let before = ends.behind k d l in omega (arith, before, end) in
    and_from _ _ (list_all-from_AllPass (λ b. nat_le (b.address + b.size) address) s.blocks (λ k d l. le-leb _ _ (behind k d l)))
    (can_place_from s size address (record {
      few = few;
      whole = eqb-true _ _ whole.0;
      least = leb-true _ _ least.0;
      even = eqb-true _ _ even.0;
      room = record { above = omega (arith, ends.least, end); below = leb-true _ _ last.1; apart = λ k d l. inr (behind k d l) };
    }))

pub last_tells : LastTells
last_tells s size address h few =
    same-test (can_append s size address) (may_follow (last_end s.low s.blocks) s.high size address) (can-stand s size address) (can-append s size address h few)

-- the last of some blocks
record IsLastOf (low : ℕ) (b : Block) (bs : List Block) : Type 0 where
  last : Block
  got : slice_get (b ∷ bs) (length bs) ≡ Some last
  end : last_end low (b ∷ bs) ≡ last.address + last.size

last-of : (low : ℕ) (b : Block) (bs : List Block) → IsLastOf low b bs
unfolding last_end
last-of low b [] = record { last = b; got = refl; end = refl }
last-of low b (c ∷ cs) =
    let rest : IsLastOf (b.address + b.size) c cs = last-of (b.address + b.size) c cs in record { last = rest.last; got = rest.got; end = rest.end }

pub end-none : (low : ℕ) (blocks : List Block) → None ≡ slice_get blocks (length blocks - 1) → low ≡ last_end low blocks
unfolding last_end
end-none low [] is = refl
end-none low (b ∷ bs) is =
    let all : IsLastOf low b bs = last-of low b bs in
    let place : length (b ∷ bs) - 1 ≡ length bs = omega arith in
    absurd (let no : None ≡ Some all.last = is ∙ ap (slice_get (b ∷ bs)) place ∙ all.got in cc)

pub end-some : (low : ℕ) (blocks : List Block) (last : Block) → Some last ≡ slice_get blocks (length blocks - 1) → last.address + last.size ≡ last_end low blocks
end-some low [] last is = absurd (let no : Some last ≡ None = is in cc)
end-some low (b ∷ bs) last is =
    let all : IsLastOf low b bs = last-of low b bs in
    let place : length (b ∷ bs) - 1 ≡ length bs = omega arith in
    let both : Some last ≡ Some all.last = is ∙ ap (slice_get (b ∷ bs)) place ∙ all.got in
    let same : last ≡ all.last = cc in
    ap (λ (x : Block). x.address + x.size) same ∙ sym all.end
