-- The fields before the blocks.
use Rattle.std.proofs.Common.{◌≡◌, inl, inr, ℕ, ◌*◌, ◌%◌, ◌≤◌, ◌==◌, nat_le, true, ◌&&◌, List, [], ◌∷◌, ◌++◌, length, Ok, arith, ap, sym, subst, ◌∙◌, refl}
use Rattle.std.proofs.lemmas.Bool.{and_from, and_parts, cases_Bool, eqb-true}
use Rattle.std.proofs.lemmas.Bool.Decides.{nat_tests}
use Rattle.mix_bits.specs.declared.isa.Isa.{Isa}
use Rattle.mix_bits.specs.declared.isa.Isa.TheVariants.{M68, Ppc}
use Rattle.big_memory.specs.Numbers.{long_at, longs_at}
use Rattle.host_heap.specs.Space.{block_limit}
use Rattle.switch_frame.specs.Program.{program_start, start_sp_of}
use Rattle.mix_image.specs.declared.error.ImageError.{ImageError}
use Rattle.mix_image.specs.declared.error.ImageError.TheVariants.{Short, Magic, Ram, Main, StartSp, Heap, Block as Blocks}
use Rattle.mix_image.specs.declared.head.Head.{Head}
use Rattle.mix_image.specs.Fields.{are_bounds, bounds_of, count_of, head_of, kib_of, long_from, magic_of, main_of, only_if, set_of, start_of}
use Rattle.mix_image.specs.inner.Heads.{IsHead}
use Rattle.mix_image.specs.Spelling.{mark_first, mark_second, set_number}
use Rattle.mix_image.proofs.Binds.{enough, long-read, long-there, not-short, passed, passes, past, then}
use Rattle.mix_image.proofs.Rows.{cons-long, four-longs, longs-split, no-longs}

-- the number of a set
pub set-back : (value : ℕ) (refusal : ImageError) (set : Isa) → set_of value refusal ≡ Ok set → value ≡ set_number set
set-back value refusal set is =
    elim (cases_Bool (value == 0)) [
      | inl none ↦
          let same : M68 ≡ set = (let both : Ok M68 ≡ Ok set = sym (rw none refl) ∙ is in cc) in
          eqb-true value 0 none ∙ ap set_number same
      | inr more ↦
          let rest : only_if (value == 1) refusal Ppc ≡ Ok set = sym (rw more refl) ∙ is in
          let parts = passed (value == 1) refusal Ppc set rest in
          eqb-true value 1 parts.0 ∙ ap set_number parts.1
    ]

pub set-there : (set : Isa) (refusal : ImageError) → set_of (set_number set) refusal ≡ Ok set
set-there M68 refusal = refl
set-there Ppc refusal = refl

-- what stands at the head of an image
pub record IsHeadAt (bytes : List ℕ) (h : Head) : Type 0 where
  pub there : 36 ≤ length bytes
  pub first : long_at 0 bytes ≡ mark_first
  pub second : long_at 4 bytes ≡ mark_second
  pub kib : long_at 8 bytes ≡ h.kib
  pub a5 : long_at 12 bytes ≡ h.a5
  pub main : long_at 16 bytes ≡ set_number h.main
  pub start : long_at 20 bytes ≡ h.start_sp
  pub low : long_at 24 bytes ≡ h.low
  pub high : long_at 28 bytes ≡ h.high
  pub count : long_at 32 bytes ≡ h.count
  pub fits : IsHead h

magic-back : (bytes : List ℕ) (x : Unit {0}) → magic_of bytes ≡ Ok x → (8 ≤ length bytes) × (long_at 0 bytes ≡ mark_first) × (long_at 4 bytes ≡ mark_second)
magic-back bytes x is =
    let rest = enough (length bytes) 8 (Short (length bytes)) (only_if ((long_at 0 bytes == mark_first) && (long_at 4 bytes == mark_second)) Magic (record {})) x is in
    let test = passed ((long_at 0 bytes == mark_first) && (long_at 4 bytes == mark_second)) Magic (record {}) x rest.1 in
    let parts = and_parts (long_at 0 bytes == mark_first) (long_at 4 bytes == mark_second) test.0 in
    (rest.0, eqb-true (long_at 0 bytes) mark_first parts.0, eqb-true (long_at 4 bytes) mark_second parts.1)

kib-back : (bytes : List ℕ) (kib : ℕ) → kib_of bytes ≡ Ok kib → (long_at 8 bytes ≡ kib) × (128 ≤ kib) × (kib ≤ 16384)
kib-back bytes kib is =
    let one = past (long_from bytes 8) (λ v. only_if (nat_le 128 v && nat_le v 16384) (Ram v) v) kib is in
    let test = passed (nat_le 128 one.0 && nat_le one.0 16384) (Ram one.0) one.0 kib one.2 in
    let parts = and_parts (nat_le 128 one.0) (nat_le one.0 16384) test.0 in
    let read = long-read bytes 8 one.0 one.1 in
    let least : 128 ≤ one.0 = grind (arith, nat_tests, parts.0) in
    let most : one.0 ≤ 16384 = grind (arith, nat_tests, parts.1) in
    (read.1 ∙ test.1, subst (λ v. 128 ≤ v) test.1 least, subst (λ v. v ≤ 16384) test.1 most)

main-back : (bytes : List ℕ) (main : Isa) → main_of bytes ≡ Ok main → long_at 16 bytes ≡ set_number main
main-back bytes main is =
    let one = past (long_from bytes 16) (λ v. set_of v (Main v)) main is in
    let read = long-read bytes 16 one.0 one.1 in
    read.1 ∙ set-back one.0 (Main one.0) main one.2

start-back : (bytes : List ℕ) (main : Isa) (kib sp : ℕ) → start_of bytes main kib ≡ Ok sp → (long_at 20 bytes ≡ sp) × (sp ≡ start_sp_of main (1024 * kib))
start-back bytes main kib sp is =
    let one = past (long_from bytes 20) (λ v. only_if (v == start_sp_of main (1024 * kib)) (StartSp v) v) sp is in
    let test = passed (one.0 == start_sp_of main (1024 * kib)) (StartSp one.0) one.0 sp one.2 in
    let read = long-read bytes 20 one.0 one.1 in
    (read.1 ∙ test.1, sym test.1 ∙ eqb-true one.0 (start_sp_of main (1024 * kib)) test.0)

pub record AreBounds (low high kib : ℕ) : Type 0 where
  pub aligned : low % 16 ≡ 0
  pub behind : 65536 ≤ low
  pub ordered : low ≤ high
  pub whole : high ≡ 768 * kib

bounds-tell : (low high kib : ℕ) → are_bounds low high kib ≡ true → AreBounds low high kib
bounds-tell low high kib is =
    let one = and_parts (low % 16 == 0) _ is in
    let two = and_parts (nat_le program_start low) _ one.1 in
    let three = and_parts (nat_le low high) (high == 768 * kib) two.1 in
    record {
      aligned = eqb-true (low % 16) 0 one.0;
      behind = grind (arith, nat_tests, two.0);
      ordered = grind (arith, nat_tests, three.0);
      whole = eqb-true high (768 * kib) three.1;
    }

bounds-back : (bytes : List ℕ) (kib : ℕ) (bounds : ℕ × ℕ) → bounds_of bytes kib ≡ Ok bounds → (long_at 24 bytes ≡ bounds.0) × (long_at 28 bytes ≡ bounds.1) × AreBounds bounds.0 bounds.1 kib
bounds-back bytes kib bounds is =
    let one = past (long_from bytes 24) _ bounds is in
    let two = past (long_from bytes 28) _ bounds one.2 in
    let test = passed (are_bounds one.0 two.0 kib) Heap (one.0, two.0) bounds two.2 in
    let low = long-read bytes 24 one.0 one.1 in
    let high = long-read bytes 28 two.0 two.1 in
    subst (λ (b : ℕ × ℕ). (long_at 24 bytes ≡ b.0) × (long_at 28 bytes ≡ b.1) × AreBounds b.0 b.1 kib) test.1 (low.1, high.1, bounds-tell one.0 two.0 kib test.0)

count-back : (bytes : List ℕ) (count : ℕ) → count_of bytes ≡ Ok count → (36 ≤ length bytes) × (long_at 32 bytes ≡ count) × (count ≤ 4096)
count-back bytes count is =
    let one = past (long_from bytes 32) (λ v. only_if (nat_le v block_limit) (Blocks v) v) count is in
    let test = passed (nat_le one.0 block_limit) (Blocks one.0) one.0 count one.2 in
    let read = long-read bytes 32 one.0 one.1 in
    let few : one.0 ≤ 4096 = grind (arith, nat_tests, test.0) in
    (read.0, read.1 ∙ test.1, subst (λ v. v ≤ 4096) test.1 few)

pub head-back : (bytes : List ℕ) (h : Head) → head_of bytes ≡ Ok h → IsHeadAt bytes h
unfolding head_of
head-back bytes h is =
    let magic = past (magic_of bytes) _ h is in
    let kib = past (kib_of bytes) _ h magic.2 in
    let a5 = past (long_from bytes 12) _ h kib.2 in
    let main = past (main_of bytes) _ h a5.2 in
    let start = past (start_of bytes main.0 kib.0) _ h main.2 in
    let bounds = past (bounds_of bytes kib.0) _ h start.2 in
    let count = past (count_of bytes) _ h bounds.2 in
    let read : Head = record { kib = kib.0; a5 = a5.0; main = main.0; start_sp = start.0; low = bounds.0.0; high = bounds.0.1; count = count.0 } in
    let same : read ≡ h = (let both : Ok read ≡ Ok h = count.2 in cc) in
    let marks = magic-back bytes magic.0 magic.1 in
    let kib_is = kib-back bytes kib.0 kib.1 in
    let a5_is = long-read bytes 12 a5.0 a5.1 in
    let start_is = start-back bytes main.0 kib.0 start.0 start.1 in
    let bounds_are = bounds-back bytes kib.0 bounds.0 bounds.1 in
    let count_is = count-back bytes count.0 count.1 in
    let whole : IsHeadAt bytes read = record {
      there = count_is.0;
      first = marks.1;
      second = marks.2;
      kib = kib_is.0;
      a5 = a5_is.1;
      main = main-back bytes main.0 main.1;
      start = start_is.0;
      low = bounds_are.0;
      high = bounds_are.1;
      count = count_is.1;
      fits = record {
        least = kib_is.1;
        most = kib_is.2;
        start = start_is.1;
        aligned = bounds_are.2.aligned;
        behind = bounds_are.2.behind;
        ordered = bounds_are.2.ordered;
        whole = bounds_are.2.whole;
        few = count_is.2;
      };
    } in
    subst (λ v. IsHeadAt bytes v) same whole

-- ---- and read from there

magic-there : (bytes : List ℕ) → 36 ≤ length bytes → long_at 0 bytes ≡ mark_first → long_at 4 bytes ≡ mark_second → magic_of bytes ≡ Ok (record {})
magic-there bytes there first second =
    not-short (length bytes) 8 (Short (length bytes)) _ (omega (arith, there))
    ∙ passes ((long_at 0 bytes == mark_first) && (long_at 4 bytes == mark_second)) Magic (record {})
    (and_from _ _ (ap (λ v. v == mark_first) first) (ap (λ v. v == mark_second) second))

kib-there : (bytes : List ℕ) (kib : ℕ) → 36 ≤ length bytes → long_at 8 bytes ≡ kib → 128 ≤ kib → kib ≤ 16384 → kib_of bytes ≡ Ok kib
kib-there bytes kib there is least most =
    let low : nat_le 128 kib ≡ true = grind (arith, nat_tests) in
    let high : nat_le kib 16384 ≡ true = grind (arith, nat_tests) in
    then (long_from bytes 8) (λ v. only_if (nat_le 128 v && nat_le v 16384) (Ram v) v) kib (Ok kib) (long-there bytes 8 kib (omega (arith, there)) is)
    (passes (nat_le 128 kib && nat_le kib 16384) (Ram kib) kib (and_from _ _ low high))

main-there : (bytes : List ℕ) (main : Isa) → 36 ≤ length bytes → long_at 16 bytes ≡ set_number main → main_of bytes ≡ Ok main
main-there bytes main there is =
    then (long_from bytes 16) (λ v. set_of v (Main v)) (set_number main) (Ok main) (long-there bytes 16 (set_number main) (omega (arith, there)) is) (set-there main (Main (set_number main)))

same-number : (a b : ℕ) → a ≡ b → (a == b) ≡ true
same-number a b same = grind (arith, nat_tests)

start-there : (bytes : List ℕ) (main : Isa) (kib sp : ℕ) → 36 ≤ length bytes → long_at 20 bytes ≡ sp → sp ≡ start_sp_of main (1024 * kib) → start_of bytes main kib ≡ Ok sp
start-there bytes main kib sp there is right =
    then (long_from bytes 20) (λ v. only_if (v == start_sp_of main (1024 * kib)) (StartSp v) v) sp (Ok sp) (long-there bytes 20 sp (omega (arith, there)) is)
    (passes (sp == start_sp_of main (1024 * kib)) (StartSp sp) sp (same-number sp (start_sp_of main (1024 * kib)) right))

bounds-there : (bytes : List ℕ) (h : Head) → IsHeadAt bytes h → bounds_of bytes h.kib ≡ Ok (h.low, h.high)
bounds-there bytes h at =
    let behind : nat_le program_start h.low ≡ true = grind (arith, nat_tests, at.fits.behind) in
    let ordered : nat_le h.low h.high ≡ true = grind (arith, nat_tests, at.fits.ordered) in
    let test : are_bounds h.low h.high h.kib ≡ true
    = and_from _ _ (same-number (h.low % 16) 0 at.fits.aligned) (and_from _ _ behind (and_from _ _ ordered (same-number h.high (768 * h.kib) at.fits.whole))) in
    then (long_from bytes 24) _ h.low (Ok (h.low, h.high)) (long-there bytes 24 h.low (omega (arith, at.there)) at.low)
    (then (long_from bytes 28) _ h.high (Ok (h.low, h.high)) (long-there bytes 28 h.high (omega (arith, at.there)) at.high)
    (passes (are_bounds h.low h.high h.kib) Heap (h.low, h.high) test))

count-there : (bytes : List ℕ) (count : ℕ) → 36 ≤ length bytes → long_at 32 bytes ≡ count → count ≤ 4096 → count_of bytes ≡ Ok count
count-there bytes count there is few =
    let test : nat_le count block_limit ≡ true = grind (arith, nat_tests) in
    then (long_from bytes 32) (λ v. only_if (nat_le v block_limit) (Blocks v) v) count (Ok count) (long-there bytes 32 count (omega (arith, there)) is)
    (passes (nat_le count block_limit) (Blocks count) count test)

pub head-there : (bytes : List ℕ) (h : Head) → IsHeadAt bytes h → head_of bytes ≡ Ok h
unfolding head_of
head-there bytes h at =
    then (magic_of bytes) _ (record {}) (Ok h) (magic-there bytes at.there at.first at.second)
    (then (kib_of bytes) _ h.kib (Ok h) (kib-there bytes h.kib at.there at.kib at.fits.least at.fits.most)
    (then (long_from bytes 12) _ h.a5 (Ok h) (long-there bytes 12 h.a5 (omega (arith, at.there)) at.a5)
    (then (main_of bytes) _ h.main (Ok h) (main-there bytes h.main at.there at.main)
    (then (start_of bytes h.main h.kib) _ h.start_sp (Ok h) (start-there bytes h.main h.kib h.start_sp at.there at.start at.fits.start)
    (then (bounds_of bytes h.kib) _ (h.low, h.high) (Ok h) (bounds-there bytes h at)
    (then (count_of bytes) _ h.count (Ok h) (count-there bytes h.count at.there at.count at.fits.few) refl))))))

-- the nine longs of a head
pub nine-longs : (bytes : List ℕ) → longs_at 9 0 bytes ≡ long_at 0 bytes ∷ long_at 4 bytes ∷ long_at 8 bytes ∷ long_at 12 bytes ∷ long_at 16 bytes ∷ long_at 20 bytes ∷ long_at 24 bytes ∷ long_at 28 bytes ∷ long_at 32 bytes ∷ []
nine-longs bytes =
    longs-split 4 5 0 16 bytes refl
    ∙ ap (λ xs. xs ++ longs_at 5 16 bytes) (four-longs 0 4 8 12 bytes refl refl refl)
    ∙ ap (λ xs. long_at 0 bytes ∷ long_at 4 bytes ∷ long_at 8 bytes ∷ long_at 12 bytes ∷ xs) (longs-split 4 1 16 32 bytes refl
    ∙ ap (λ xs. xs ++ longs_at 1 32 bytes) (four-longs 16 20 24 28 bytes refl refl refl)
    ∙ ap (λ xs. long_at 16 bytes ∷ long_at 20 bytes ∷ long_at 24 bytes ∷ long_at 28 bytes ∷ xs) (cons-long 0 32 36 bytes refl ∙ ap (λ xs. long_at 32 bytes ∷ xs) (no-longs 36 bytes)))

pub head-longs : (bytes : List ℕ) (h : Head) → IsHeadAt bytes h
    → longs_at 9 0 bytes ≡ mark_first ∷ mark_second ∷ h.kib ∷ h.a5 ∷ set_number h.main ∷ h.start_sp ∷ h.low ∷ h.high ∷ h.count ∷ []
head-longs bytes h at =
    nine-longs bytes ∙ (λ i. at.first i ∷ at.second i ∷ at.kib i ∷ at.a5 i ∷ at.main i ∷ at.start i ∷ at.low i ∷ at.high i ∷ at.count i ∷ [])
