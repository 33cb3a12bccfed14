-- The blocks of a heap, read one behind the other.
use Rattle.std.proofs.Common.{◌≡◌, ℕ, zero, suc, ◌+◌, ◌-◌, ◌*◌, ◌<◌, ◌≤◌, nat_le, true, ◌&&◌, inr, List, [], ◌∷◌, ◌++◌, length, get_or, Ok, Err, arith, ap, sym, subst, ◌∙◌, refl, append_assoc, length-append}
use Rattle.std.specs.Prelude.{All}
use Rattle.std.proofs.lemmas.Bool.{and_from, and_parts, le-leb}
use Rattle.std.proofs.lemmas.List.{append-nil}
use Rattle.std.proofs.lemmas.List.Sums.{list_all-from_AllPass}
use Rattle.mix_bits.specs.Results.{◌>>=◌}
use Rattle.big_memory.specs.Numbers.{long_at, longs_at}
use Rattle.host_heap.specs.declared.block.Block.{Block}
use Rattle.host_heap.specs.Space.{Space}
use Rattle.host_heap.specs.laws.Place.{CanPlace}
use Rattle.host_heap.specs.Place.{can_place, is_behind, placed, with_block}
use Rattle.host_heap.specs.Sound.{IsAligned, IsInside, IsSound}
use Rattle.host_heap.proofs.Fits.{places_are_tested}
use Rattle.host_heap.proofs.Placing.{placing_appends, placing_keeps_sound}
use Rattle.mix_image.specs.declared.error.ImageError.{ImageError}
use Rattle.mix_image.specs.declared.error.ImageError.TheVariants.{Block as Blocks}
use Rattle.mix_image.specs.Fields.{block_from, blocks_from, empty_heap, long_from}
use Rattle.mix_image.specs.Spelling.{block_longs}
use Rattle.mix_image.proofs.Binds.{long-among, long-read, long-there, passed, passes, past, then}
use Rattle.mix_image.proofs.Rows.{longs-split, no-longs, two-longs}

-- a heap with its blocks
abbrev pub with_blocks : ℕ → ℕ → List Block → Space
with_blocks low high blocks = record { low = low; high = high; blocks = blocks }

-- the test of what stands before a block
all-behind : (blocks : List Block) (address : ℕ) → All (λ b. b.address + b.size ≤ address) blocks → is_behind blocks address ≡ true
all-behind blocks address all = list_all-from_AllPass (λ b. nat_le (b.address + b.size) address) blocks (λ k d l. le-leb _ _ (all k d l))

longs-append : (xs : List Block) (b : Block) → block_longs (xs ++ b ∷ []) ≡ block_longs xs ++ (b.address ∷ b.size ∷ [])
longs-append [] b = refl
longs-append (x ∷ xs) b = ap (λ ys. x.address ∷ x.size ∷ ys) (longs-append xs b)

pub length-longs : (xs : List Block) → length (block_longs xs) ≡ 2 * length xs
length-longs [] = refl
length-longs (x ∷ xs) = let rest : length (block_longs xs) ≡ 2 * length xs = length-longs xs in omega arith

-- ---- blocks that were read

pub record IsPlaced (bytes : List ℕ) (low high k : ℕ) (t : Space) : Type 0 where
  pub low_is : t.low ≡ low
  pub high_is : t.high ≡ high
  pub sound : IsSound t
  pub count : length t.blocks ≡ k
  pub longs : longs_at (2 * k) 36 bytes ≡ block_longs t.blocks
  pub there : 36 + 8 * k ≤ length bytes

placed-none : (bytes : List ℕ) (low high : ℕ) → IsSound (empty_heap low high) → 36 ≤ length bytes → IsPlaced bytes low high 0 (empty_heap low high)
placed-none bytes low high sound there =
    record { low_is = refl; high_is = refl; sound = sound; count = refl; longs = no-longs 36 bytes; there = there }

placed-more : (bytes : List ℕ) (low high k address size : ℕ) (t : Space) → IsPlaced bytes low high k t → 36 + 8 * k + 8 ≤ length bytes → long_at (36 + 8 * k) bytes ≡ address → long_at (40 + 8 * k) bytes ≡ size
    → (is_behind t.blocks address && can_place t size address) ≡ true → IsPlaced bytes low high (suc k) (placed t size address)
placed-more bytes low high k address size t before there first second test =
    let new : Block = record { address = address; size = size } in
    let parts = and_parts (is_behind t.blocks address) (can_place t size address) test in
    let last : with_block t.blocks new ≡ t.blocks ++ new ∷ [] = ap (λ (u : Space). u.blocks) (placing_appends t size address before.sound.aligned parts.0) in
    let more : 2 * suc k ≡ 2 * k + 2 = omega arith in
    record {
      low_is = before.low_is;
      high_is = before.high_is;
      sound = placing_keeps_sound t size address before.sound parts.1;
      count = ap length last ∙ length-append t.blocks (new ∷ []) ∙ (let e : length t.blocks + 1 ≡ suc k = omega (arith, before.count) in e);
      longs = ap (λ n. longs_at n 36 bytes) more
          ∙ longs-split (2 * k) 2 36 (36 + 8 * k) bytes (omega arith)
          ∙ ap (λ xs. xs ++ longs_at 2 (36 + 8 * k) bytes) before.longs
          ∙ ap (λ xs. block_longs t.blocks ++ xs) (two-longs (36 + 8 * k) (40 + 8 * k) bytes (omega arith) ∙ ap (λ x. x ∷ long_at (40 + 8 * k) bytes ∷ []) first ∙ ap (λ x. address ∷ x ∷ []) second)
          ∙ sym (longs-append t.blocks new)
          ∙ ap block_longs (sym last);
      there = omega (arith, there);
    }

pub blocks-start : (bytes : List ℕ) (s : Space) → blocks_from bytes s 0 ≡ Ok s
unfolding blocks_from
blocks-start bytes s = refl

pub blocks-next : (bytes : List ℕ) (s : Space) (k : ℕ) → blocks_from bytes s (suc k) ≡ (blocks_from bytes s k >>= λ t. block_from bytes t k)
unfolding blocks_from
blocks-next bytes s k = refl

block-back : (bytes : List ℕ) (low high k : ℕ) (t u : Space) → IsPlaced bytes low high k t → block_from bytes t k ≡ Ok u → IsPlaced bytes low high (suc k) u
block-back bytes low high k t u before is =
    let one = past (long_from bytes (36 + 8 * k)) _ u is in
    let two = past (long_from bytes (40 + 8 * k)) _ u one.2 in
    let test = passed (is_behind t.blocks one.0 && can_place t two.0 one.0) (Blocks k) (placed t two.0 one.0) u two.2 in
    let first = long-read bytes (36 + 8 * k) one.0 one.1 in
    let second = long-read bytes (40 + 8 * k) two.0 two.1 in
    subst (λ v. IsPlaced bytes low high (suc k) v) test.1 (placed-more bytes low high k one.0 two.0 t before (omega (arith, second.0)) first.1 second.1 test.0)

pub blocks-back : (bytes : List ℕ) (low high k : ℕ) (t : Space) → IsSound (empty_heap low high) → 36 ≤ length bytes → blocks_from bytes (empty_heap low high) k ≡ Ok t → IsPlaced bytes low high k t
blocks-back bytes low high zero t sound there is =
    let same : empty_heap low high ≡ t = (let both : Ok (empty_heap low high) ≡ Ok t = sym (blocks-start bytes (empty_heap low high)) ∙ is in cc) in
    subst (λ v. IsPlaced bytes low high 0 v) same (placed-none bytes low high sound there)
blocks-back bytes low high (suc k) t sound there is =
    let step = past (blocks_from bytes (empty_heap low high) k) (λ v. block_from bytes v k) t (sym (blocks-next bytes (empty_heap low high) k) ∙ is) in
    block-back bytes low high k step.0 t (blocks-back bytes low high k step.0 sound there step.1) step.2

-- ---- blocks that stand in a heap

seam : (xs ys : List Block) (y d : Block) → get_or (xs ++ y ∷ ys) (length xs) d ≡ y
seam [] ys y d = refl
seam (x ∷ xs) ys y d = seam xs ys y d

before-seam : (xs ys : List Block) (k : ℕ) (d : Block) → k < length xs → get_or (xs ++ ys) k d ≡ get_or xs k d
before-seam [] ys k d less = absurd (omega arith)
before-seam (x ∷ xs) ys zero d less = refl
before-seam (x ∷ xs) ys (suc k) d less = before-seam xs ys k d (omega (arith, less))

address-at : (xs ys : List Block) (y : Block) → get_or (block_longs (xs ++ y ∷ ys)) (2 * length xs) 0 ≡ y.address
address-at [] ys y = refl
address-at (x ∷ xs) ys y =
    let two : 2 * length (x ∷ xs) ≡ suc (suc (2 * length xs)) = omega arith in ap (λ k. get_or (block_longs (x ∷ (xs ++ y ∷ ys))) k 0) two ∙ address-at xs ys y

size-at : (xs ys : List Block) (y : Block) → get_or (block_longs (xs ++ y ∷ ys)) (2 * length xs + 1) 0 ≡ y.size
size-at [] ys y = refl
size-at (x ∷ xs) ys y =
    let two : 2 * length (x ∷ xs) + 1 ≡ suc (suc (2 * length xs + 1)) = omega arith in ap (λ k. get_or (block_longs (x ∷ (xs ++ y ∷ ys))) k 0) two ∙ size-at xs ys y

-- what holds of the block behind those that were read
pub record IsNext (low high : ℕ) (done left : List Block) (b : Block) : Type 0 where
  pub inside : IsInside (with_blocks low high (done ++ b ∷ left)) b
  pub aligned : IsAligned b
  pub behind : All (λ x. x.address + x.size ≤ b.address) done
  pub done_aligned : All IsAligned done
  pub few : length done < 4096

next-of : (low high : ℕ) (done left : List Block) (b : Block) → IsSound (with_blocks low high (done ++ b ∷ left)) → IsNext low high done left b
next-of low high done left b sound =
    let all = done ++ b ∷ left in
    let count : length (done ++ b ∷ left) ≡ length done + length (b ∷ left) = length-append done (b ∷ left) in
    let less : length done < length (done ++ b ∷ left) = omega arith in
    record {
      inside = subst (λ x. IsInside (with_blocks low high all) x) (seam done left b b) (sound.inside (length done) b less);
      aligned = subst (λ x. IsAligned x) (seam done left b b) (sound.aligned (length done) b less);
      behind = λ k d l.
          let before = sound.apart k (length done) d l less in
          subst (λ x. x.address + x.size ≤ b.address) (before-seam done (b ∷ left) k d l)
          (subst (λ y. (get_or (done ++ b ∷ left) k d).address + (get_or (done ++ b ∷ left) k d).size ≤ y.address) (seam done left b d) before);
      done_aligned = λ k d l. subst (λ x. IsAligned x) (before-seam done (b ∷ left) k d l) (sound.aligned k d (omega (arith, l, less)));
      few = omega (arith, sound.count, count);
    }

block-there : (bytes : List ℕ) (low high : ℕ) (done left : List Block) (b : Block) → IsNext low high done left b → length done * 8 + 44 ≤ length bytes
    → long_at (36 + 8 * length done) bytes ≡ b.address → long_at (40 + 8 * length done) bytes ≡ b.size → block_from bytes (with_blocks low high done) (length done) ≡ Ok (with_blocks low high (done ++ b ∷ []))
block-there bytes low high done left b next there first second =
    let s = with_blocks low high done in
    let k = length done in
    let can : CanPlace (with_blocks low high done) b.size b.address = record {
      few = next.few;
      whole = next.aligned.1;
      least = next.aligned.2;
      even = next.aligned.0;
      room = record { above = next.inside.0; below = next.inside.1; apart = λ j d l. inr (next.behind j d l) };
    } in
    let test : (is_behind done b.address && can_place (with_blocks low high done) b.size b.address) ≡ true
    = and_from (is_behind done b.address) (can_place s b.size b.address) (all-behind done b.address next.behind) ((places_are_tested s b.size b.address).1 can) in
    let last : placed (with_blocks low high done) b.size b.address ≡ with_blocks low high (done ++ b ∷ []) = placing_appends (with_blocks low high done) b.size b.address next.done_aligned (all-behind done b.address next.behind) in
    then (long_from bytes (36 + 8 * k)) _ b.address _ (long-there bytes (36 + 8 * k) b.address (omega (arith, there)) first)
    (then (long_from bytes (40 + 8 * k)) _ b.size _ (long-there bytes (40 + 8 * k) b.size (omega (arith, there)) second)
    (passes (is_behind done b.address && can_place s b.size b.address) (Blocks k) (placed s b.size b.address) test ∙ ap Ok last))

blocks-on : (bytes : List ℕ) (low high c : ℕ) (done left : List Block) → IsSound (with_blocks low high (done ++ left)) → longs_at (2 * c) 36 bytes ≡ block_longs (done ++ left) → c ≡ length (done ++ left)
    → 36 + 8 * c ≤ length bytes → blocks_from bytes (empty_heap low high) (length done) ≡ Ok (with_blocks low high done) → blocks_from bytes (empty_heap low high) c ≡ Ok (with_blocks low high (done ++ left))
blocks-on bytes low high c done [] sound longs count there so_far =
    let none : done ++ [] ≡ done = append-nil done in
    let number : c ≡ length done = count ∙ ap length none in
    ap (λ k. blocks_from bytes (empty_heap low high) k) number ∙ so_far ∙ ap (λ bs. Ok (with_blocks low high bs)) (sym none)
blocks-on bytes low high c done (b ∷ left) sound longs count there so_far =
    let k = length done in
    let long : length (done ++ b ∷ left) ≡ length done + length (b ∷ left) = length-append done (b ∷ left) in
    let first : long_at (36 + 8 * length done) bytes ≡ b.address
    = long-among (2 * c) 36 (36 + 8 * k) (2 * k) bytes (block_longs (done ++ b ∷ left)) longs (omega (arith, count, long)) (omega arith) ∙ address-at done left b in
    let second : long_at (40 + 8 * length done) bytes ≡ b.size
    = long-among (2 * c) 36 (40 + 8 * k) (2 * k + 1) bytes (block_longs (done ++ b ∷ left)) longs (omega (arith, count, long)) (omega arith) ∙ size-at done left b in
    let step : blocks_from bytes (empty_heap low high) (suc (length done)) ≡ Ok (with_blocks low high (done ++ b ∷ []))
    = blocks-next bytes (empty_heap low high) k
    ∙ then (blocks_from bytes (empty_heap low high) k) (λ t. block_from bytes t k) (with_blocks low high done) (Ok (with_blocks low high (done ++ b ∷ []))) so_far
    (block-there bytes low high done left b (next-of low high done left b sound) (omega (arith, count, long, there)) first second) in
    let joined : (done ++ b ∷ []) ++ left ≡ done ++ b ∷ left = append_assoc done (b ∷ []) left in
    let number : suc (length done) ≡ length (done ++ b ∷ []) = (let e : length (done ++ b ∷ []) ≡ length done + 1 = length-append done (b ∷ []) in omega arith) in
    let rest = blocks-on bytes low high c (done ++ b ∷ []) left (subst (λ bs. IsSound (with_blocks low high bs)) (sym joined) sound) (longs ∙ ap block_longs (sym joined)) (count ∙ ap length (sym joined)) there
    (ap (λ n. blocks_from bytes (empty_heap low high) n) (sym number) ∙ step) in
    rest ∙ ap (λ bs. Ok (with_blocks low high bs)) joined

pub blocks-there : (bytes : List ℕ) (low high c : ℕ) (blocks : List Block) → IsSound (with_blocks low high blocks) → longs_at (2 * c) 36 bytes ≡ block_longs blocks → c ≡ length blocks → 36 + 8 * c ≤ length bytes
    → blocks_from bytes (empty_heap low high) c ≡ Ok (with_blocks low high blocks)
blocks-there bytes low high c blocks sound longs count there = blocks-on bytes low high c [] blocks sound longs count there (blocks-start bytes (empty_heap low high))

-- ---- as a loop reads them

pub blocks-begun : (bytes : List ℕ) (s t : Space) → t ≡ s → blocks_from bytes s 0 ≡ Ok t
blocks-begun bytes s t same = blocks-start bytes s ∙ ap Ok (sym same)

pub blocks-more : (bytes : List ℕ) (s t u : Space) (k : ℕ) → blocks_from bytes s k ≡ Ok t → block_from bytes t k ≡ Ok u → blocks_from bytes s (k + 1) ≡ Ok u
blocks-more bytes s t u k so_far step =
    let next : k + 1 ≡ suc k = omega arith in
    ap (λ n. blocks_from bytes s n) next ∙ blocks-next bytes s k ∙ then (blocks_from bytes s k) (λ v. block_from bytes v k) t (Ok u) so_far step

refused-on : (bytes : List ℕ) (s : Space) (k more : ℕ) (e : ImageError) → blocks_from bytes s k ≡ Err e → blocks_from bytes s (k + more) ≡ Err e
refused-on bytes s k zero e is = let same : k + 0 ≡ k = omega arith in ap (λ n. blocks_from bytes s n) same ∙ is
refused-on bytes s k (suc more) e is =
    let next : k + suc more ≡ suc (k + more) = omega arith in
    ap (λ n. blocks_from bytes s n) next ∙ blocks-next bytes s (k + more) ∙ ap (λ r. r >>= λ v. block_from bytes v (k + more)) (refused-on bytes s k more e is)

pub blocks-stop : (bytes : List ℕ) (s t : Space) (k count : ℕ) (e : ImageError) → k < count → blocks_from bytes s k ≡ Ok t → block_from bytes t k ≡ Err e → blocks_from bytes s count ≡ Err e
blocks-stop bytes s t k count e less so_far step =
    let here : blocks_from bytes s (suc k) ≡ Err e = blocks-next bytes s k ∙ then (blocks_from bytes s k) (λ v. block_from bytes v k) t (Err e) so_far step in
    let all : suc k + (count - suc k) ≡ count = omega arith in
    ap (λ n. blocks_from bytes s n) (sym all) ∙ refused-on bytes s (suc k) (count - suc k) e here
