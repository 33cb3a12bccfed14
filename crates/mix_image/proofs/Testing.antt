-- Tests of fields, which keep none.
use Rattle.std.proofs.Common.{◌≡◌, ℕ, suc, ◌+◌, ◌-◌, ◌*◌, ◌%◌, ◌<◌, ◌≤◌, nat_le, Bool, true, false, List, [], ◌∷◌, ◌++◌, length, Option, Result, Ok, Err, arith, ap, sym, ◌∙◌, refl, length-append}
use Rattle.std.proofs.lemmas.Bool.{and_parts}
use Rattle.mix_bits.specs.Results.{◌>>=◌}
use Rattle.host_heap.specs.declared.block.Block.{Block}
use Rattle.host_heap.specs.Space.{Space}
use Rattle.host_heap.specs.Place.{can_append, can_place, is_behind, placed}
use Rattle.host_heap.specs.laws.Place.{last_end, may_follow}
use Rattle.host_heap.specs.Sound.{IsSound}
use Rattle.host_heap.proofs.Appending.{last_tells}
use Rattle.host_heap.proofs.Placing.{placing_appends, placing_keeps_sound}
use Rattle.mix_image.specs.declared.error.ImageError.{ImageError}
use Rattle.mix_image.specs.declared.error.ImageError.TheVariants.{Block as Blocks, Extra}
use Rattle.mix_image.specs.Fields.{Pages, bare, block_from, blocks_from, empty_heap, long_from, memory_from, more_pages, only_if, page_from, page_size, pages_from}
use Rattle.mix_image.specs.inner.Testing.{end_from, outcome}
use Rattle.mix_image.proofs.Binds.{passed, passes, past, then}
use Rattle.mix_image.proofs.Pagings.{pages-start, pages-step}
use Rattle.mix_image.proofs.Filling.{stopped-on}
use Rattle.mix_image.proofs.Placing.{blocks-next, blocks-start, blocks-stop}

-- ---- the outcome of a chain

pub refusal-of : {A : Type 0} (r : Result A ImageError) (e : ImageError) → Err e ≡ outcome r → r ≡ Err e
refusal-of (Ok x) e is = absurd (cc)
refusal-of (Err f) e is = let same : e ≡ f = cc in ap Err (sym same)

pub stops : {A B : Type 0} (r : Result A ImageError) (f : A → Result B ImageError) (e : ImageError) → r ≡ Err e → outcome (r >>= f) ≡ Err e
stops r f e is = ap (λ s. outcome (s >>= f)) is

pub goes-on : {A B : Type 0} (r : Result A ImageError) (f : A → Result B ImageError) (x : A) → r ≡ Ok x → outcome (r >>= f) ≡ outcome (f x)
goes-on r f x is = ap (λ s. outcome (s >>= f)) is

pub same-outcome : {A B C : Type 0} (r : Result A ImageError) (f : A → Result B ImageError) (g : A → Result C ImageError) → ((x : A) → outcome (f x) ≡ outcome (g x)) → outcome (r >>= f) ≡ outcome (r >>= g)
same-outcome (Ok x) f g same = same x
same-outcome (Err e) f g same = refl

pub same-test : {A B : Type 0} (a b : Bool) (e : ImageError) (x : A) (y : B) → a ≡ b → outcome (only_if a e x) ≡ outcome (only_if b e y)
same-test true b e x y same = ap (λ c. outcome (only_if c e y)) same
same-test false b e x y same = ap (λ c. outcome (only_if c e y)) same

-- ---- blocks

-- the first k blocks passed, and the last of them ends at `end`
pub record IsTestedTo (bytes : List ℕ) (low high k end : ℕ) : Type 0 where
  pub heap : Space
  pub read : blocks_from bytes (empty_heap low high) k ≡ Ok heap
  pub sound : IsSound heap
  pub count : length heap.blocks ≡ k
  pub high_is : heap.high ≡ high
  pub end_is : last_end heap.low heap.blocks ≡ end

no-end : (low high : ℕ) → last_end low [] ≡ low
unfolding last_end
no-end low high = refl

new-end : (low : ℕ) (blocks : List Block) (new : Block) → last_end low (blocks ++ new ∷ []) ≡ new.address + new.size
unfolding last_end
new-end low [] new = refl
new-end low (b ∷ bs) new = new-end (b.address + b.size) bs new

pub tested-none : (bytes : List ℕ) (low high end : ℕ) → low % 16 ≡ 0 → high % 16 ≡ 0 → low ≤ high → end ≡ low → IsTestedTo bytes low high 0 end
tested-none bytes low high end first last order is =
    record {
      heap = empty_heap low high;
      read = blocks-start bytes (empty_heap low high);
      sound = record { low = first; high = last; order = order; inside = λ k d l. absurd (omega arith); aligned = λ k d l. absurd (omega arith); apart = λ i j d l k. absurd (omega arith); count = omega arith };
      count = refl;
      high_is = refl;
      end_is = no-end low high ∙ sym is;
    }

-- the last block tells whether the next one may stand
tells : (bytes : List ℕ) (low high k end size address : ℕ) (before : IsTestedTo bytes low high k end) → k < 4096 → can_append before.heap size address ≡ may_follow end high size address
tells bytes low high k end size address before few =
    last_tells before.heap size address before.sound (omega (arith, before.count, few))
    ∙ ap (λ e. may_follow e before.heap.high size address) before.end_is
    ∙ ap (λ h. may_follow end h size address) before.high_is

same-block : (bytes : List ℕ) (low high k end : ℕ) (before : IsTestedTo bytes low high k end) → k < 4096 → outcome (end_from bytes end high k) ≡ outcome (block_from bytes before.heap k)
same-block bytes low high k end before few =
    same-outcome (long_from bytes (36 + 8 * k))
    (λ address. long_from bytes (40 + 8 * k) >>= λ size. only_if (may_follow end high size address) (Blocks k) (address + size))
    (λ address. long_from bytes (40 + 8 * k) >>= λ size. only_if (can_append before.heap size address) (Blocks k) (placed before.heap size address))
    (λ address. same-outcome (long_from bytes (40 + 8 * k))
    (λ size. only_if (may_follow end high size address) (Blocks k) (address + size))
    (λ size. only_if (can_append before.heap size address) (Blocks k) (placed before.heap size address))
    (λ size. same-test (may_follow end high size address) (can_append before.heap size address) (Blocks k) (address + size) (placed before.heap size address) (sym (tells bytes low high k end size address before few))))

pub blocks-refused : (bytes : List ℕ) (low high count k end : ℕ) (e : ImageError) → IsTestedTo bytes low high k end → k < count → count ≤ 4096 → Err e ≡ end_from bytes end high k → blocks_from bytes (empty_heap low high) count ≡ Err e
blocks-refused bytes low high count k end e before less few is =
    let here : Err e ≡ outcome (block_from bytes before.heap k) = ap outcome is ∙ same-block bytes low high k end before (omega (arith, less, few)) in
    blocks-stop bytes (empty_heap low high) before.heap k count e less before.read (refusal-of (block_from bytes before.heap k) e here)

pub tested-more : (bytes : List ℕ) (low high k end new : ℕ) → IsTestedTo bytes low high k end → k < 4096 → Ok new ≡ end_from bytes end high k → IsTestedTo bytes low high (k + 1) new
tested-more bytes low high k end new before few is =
    let one = past (long_from bytes (36 + 8 * k)) _ new (sym is) in
    let two = past (long_from bytes (40 + 8 * k)) _ new one.2 in
    let address = one.0 in
    let size = two.0 in
    let test = passed (may_follow end high size address) (Blocks k) (address + size) new two.2 in
    let can : can_append before.heap size address ≡ true = tells bytes low high k end size address before few ∙ test.0 in
    let parts = and_parts (is_behind before.heap.blocks address) (can_place before.heap size address) can in
    let last = placing_appends before.heap size address before.sound.aligned parts.0 in
    let block : Block = record { address = address; size = size } in
    let next : k + 1 ≡ suc k = omega arith in
    record {
      heap = placed before.heap size address;
      read = ap (λ n. blocks_from bytes (empty_heap low high) n) next
          ∙ blocks-next bytes (empty_heap low high) k
          ∙ then (blocks_from bytes (empty_heap low high) k) (λ t. block_from bytes t k) before.heap _ before.read
          (then (long_from bytes (36 + 8 * k)) _ address _ one.1 (then (long_from bytes (40 + 8 * k)) _ size _ two.1 (passes (can_append before.heap size address) (Blocks k) (placed before.heap size address) can)));
      sound = placing_keeps_sound before.heap size address before.sound parts.1;
      count = ap (λ (s : Space). length s.blocks) last ∙ length-append before.heap.blocks (block ∷ []) ∙ ap (λ n. n + 1) before.count;
      high_is = before.high_is;
      end_is = ap (λ (s : Space). last_end before.heap.low s.blocks) last ∙ new-end before.heap.low before.heap.blocks block ∙ test.1;
    }

-- ---- pages

-- the first k pages passed, and end there
pub record ArePagesTo (bytes : List ℕ) (at k end : ℕ) : Type 0 where
  pub pages : Pages
  pub read : pages_from bytes at k ≡ Ok pages
  pub end_is : pages.end ≡ end
  pub within : end ≤ length bytes

pub pages-none : (bytes : List ℕ) (at : ℕ) → at ≤ length bytes → ArePagesTo bytes at 0 at
pages-none bytes at there = record { pages = record { bytes = []; end = at }; read = pages-start bytes at; end_is = refl; within = there }

pub pages-more : (bytes : List ℕ) (at k end : ℕ) (q : Option (List ℕ)) → ArePagesTo bytes at k end → page_from bytes end k ≡ Ok q → end + page_size q ≤ length bytes → ArePagesTo bytes at (k + 1) (end + page_size q)
pages-more bytes at k end q before read within =
    let next : k + 1 ≡ suc k = omega arith in
    let here : page_from bytes before.pages.end k ≡ Ok q = ap (λ e. page_from bytes e k) before.end_is ∙ read in
    record {
      pages = more_pages before.pages q;
      read = ap (λ n. pages_from bytes at n) next
          ∙ pages-step bytes at k
          ∙ then (pages_from bytes at k) (λ before. page_from bytes before.end k >>= λ q. Ok (more_pages before q)) before.pages _ before.read
          (then (page_from bytes before.pages.end k) (λ q. Ok (more_pages before.pages q)) q _ here refl);
      end_is = ap (λ e. e + page_size q) before.end_is;
      within = within;
    }

pub pages-refused : (bytes : List ℕ) (at kib k end : ℕ) (e : ImageError) → ArePagesTo bytes at k end → k < kib → page_from bytes end k ≡ Err e → memory_from bytes at kib ≡ Err e
unfolding memory_from
pages-refused bytes at kib k end e before less refused =
    let here : page_from bytes before.pages.end k ≡ Err e = ap (λ n. page_from bytes n k) before.end_is ∙ refused in
    let stop : pages_from bytes at (suc k) ≡ Err e
    = pages-step bytes at k
    ∙ then (pages_from bytes at k) (λ before. page_from bytes before.end k >>= λ q. Ok (more_pages before q)) before.pages (Err e) before.read (ap (λ r. r >>= λ q. Ok (more_pages before.pages q)) here) in
    let all : suc k + (kib - suc k) ≡ kib = omega arith in
    ap (λ r. r >>= λ p. only_if (nat_le (length bytes) p.end) (Extra p.end) (bare p.bytes)) (ap (λ n. pages_from bytes at n) (sym all) ∙ stopped-on bytes at (suc k) (kib - suc k) e stop)

outcome-only : {A : Type 0} (test : Bool) (e : ImageError) (value : A) → outcome (only_if test e value) ≡ only_if test e (record {})
outcome-only true e value = refl
outcome-only false e value = refl

pub pages-outcome : (bytes : List ℕ) (at kib end : ℕ) → ArePagesTo bytes at kib end → only_if (nat_le (length bytes) end) (Extra end) (record {}) ≡ outcome (memory_from bytes at kib)
unfolding memory_from
pages-outcome bytes at kib end all =
    sym (goes-on (pages_from bytes at kib) (λ p. only_if (nat_le (length bytes) p.end) (Extra p.end) (bare p.bytes)) all.pages all.read
    ∙ outcome-only (nat_le (length bytes) all.pages.end) (Extra all.pages.end) (bare all.pages.bytes)
    ∙ ap (λ n. only_if (nat_le (length bytes) n) (Extra n) (record {})) all.end_is)
