-- the walk over the blocks, in order of address, that finds the lowest place
use Rattle.std.proofs.Common.{ℕ, ◌≡◌, ◌+◌, ◌<◌, ◌≤◌, length, get_or, ⊎_elim, inl, inr, sym, ap, subst, arith}
use Rattle.std.proofs.lemmas.Bool.{cases_lt}
use Rattle.std.proofs.lemmas.List.{get_or_read}
use Rattle.host_heap.specs.declared.block.Block.{Block}
use Rattle.host_heap.specs.Space.{Space}
use Rattle.host_heap.specs.SpaceClauses.{HasRoom, IsLowest, HasNone}
use Rattle.host_heap.specs.Sound.{IsSound}

-- `address` is where the blocks before the index end, and nothing fits below it
pub record Walked (s : Space) (size index address : ℕ) : Type 0 where
  pub low : s.low ≤ address
  pub high : address ≤ s.high
  pub behind : (k : ℕ) (d : Block) → k < index → k < length s.blocks → (get_or s.blocks k d).address + (get_or s.blocks k d).size ≤ address
  pub least : (other : ℕ) → HasRoom s size other → address ≤ other

pub Walked-none : (s : Space) (size : ℕ) → IsSound s → Walked s size 0 s.low
Walked-none s size h = record {
  low = omega arith;
  high = h.order;
  behind = λ k d l m. absurd (omega arith);
  least = λ other room. room.above;
}

-- the hole before the block is too small
pub Walked-more : (s : Space) (size index address : ℕ) (block : Block) → IsSound s → Walked s size index address → index < length s.blocks → block ≡ get_or s.blocks index block → block.address < address + size → Walked s size (index + 1) (block.address + block.size)
Walked-more s size index address block h w within read small =
    let inside = h.inside index block within in
    let start = ap (λ (b : Block). b.address) read in
    let long = ap (λ (b : Block). b.size) read in
    record {
      low = omega (arith, inside.0, start);
      high = omega (arith, inside.1, start, long);
      behind = λ k d l m. ⊎_elim
          (λ (before : k < index).
          let next = h.apart k index d before within in
          let here = ap (λ (b : Block). b.address) (get_or_read s.blocks index block within read d) in omega (arith, next, here))
          (λ (at : index ≤ k).
          let same : k ≡ index = omega arith in
          let here = get_or_read s.blocks k block m (subst (λ (j : ℕ). block ≡ get_or s.blocks j block) (sym same) read) d in
          omega (arith, ap (λ (b : Block). b.address) here, ap (λ (b : Block). b.size) here))
          (cases_lt k index);
      least = λ other room.
          let old = w.least other room in
          ⊎_elim (λ e. absurd (omega (arith, e, start, old, small))) (λ e. omega (arith, e, start, long)) (room.apart index block within);
    }

-- the hole before the block has room
pub IsLowest-before : (s : Space) (size index address : ℕ) (block : Block) → IsSound s → Walked s size index address → index < length s.blocks → block ≡ get_or s.blocks index block → address + size ≤ block.address → IsLowest s size address
IsLowest-before s size index address block h w within read fit =
    let inside = h.inside index block within in
    let start = ap (λ (b : Block). b.address) read in
    let room : HasRoom s size address = record {
      above = w.low;
      below = omega (arith, inside.1, start);
      apart = λ k d l. ⊎_elim
          (λ (before : k < index). inr (w.behind k d before l))
          (λ (at : index ≤ k).
          let here = ap (λ (b : Block). b.address) (get_or_read s.blocks index block within read d) in
          ⊎_elim
          (λ (after : index < k). let next = h.apart index k d after l in inl (omega (arith, next, here, fit)))
          (λ (same : k ≤ index).
          let one : index ≡ k = omega arith in
          let there = ap (λ (j : ℕ). (get_or s.blocks j d).address) one in inl (omega (arith, there, here, fit)))
          (cases_lt index k))
          (cases_lt k index);
    } in
    record { room = room; least = w.least }

-- there is room behind the last block
pub IsLowest-last : (s : Space) (size address : ℕ) → Walked s size (length s.blocks) address → address + size ≤ s.high → IsLowest s size address
IsLowest-last s size address w fit =
    let room : HasRoom s size address = record { above = w.low; below = fit; apart = λ k d l. inr (w.behind k d l l) } in
    record { room = room; least = w.least }

pub HasNone-last : (s : Space) (size address : ℕ) → Walked s size (length s.blocks) address → s.high < address + size → HasNone s size
HasNone-last s size address w small = λ other room.
    let least = w.least other room in let below = room.below in omega arith
