-- The pages of RAM, read one behind the other.
use Rattle.std.proofs.Common.{◌≡◌, ℕ, zero, suc, ◌+◌, ◌-◌, ◌*◌, ◌<◌, ◌≤◌, ◌==◌, nat_le, true, false, cond, lit<, inl, inr, List, [], ◌∷◌, ◌++◌, length, take, drop, get_or, Option, Some, None, Ok, Err, arith, ap, sym, subst, ◌∙◌, refl, add-one, length-append, length-take, length-drop, drop-cons}
use Rattle.std.proofs.lemmas.Bool.{and_parts, cases_Bool, eqb-true}
use Rattle.std.proofs.lemmas.Bool.Decides.{nat_tests}
use Rattle.std.proofs.lemmas.Grind.{same_number_lists}
use Rattle.std.proofs.lemmas.List.{length-replicate, places}
use Rattle.std.proofs.Math.Seq.{drop-append_seam, take-add, take-append_seam}
use Rattle.mix_bits.specs.Results.{◌>>=◌}
use Rattle.big_memory.specs.Numbers.{AreBytes}
use Rattle.big_memory.specs.Lists.{part}
use Rattle.big_memory.specs.Memory.{Memory}
use Rattle.switch_frame.specs.Program.{blank}
use Rattle.mix_image.specs.declared.error.ImageError.TheVariants.{Page, Short, Extra}
use Rattle.mix_image.specs.Fields.{Pages, bare, full_page, memory_from, more_pages, only_if, page_bytes, page_from, page_size, pages_from}
use Rattle.mix_image.specs.Spelling.{is_blank, page, pages}
use Rattle.mix_image.proofs.Binds.{enough, not-short, passed, passes, past, then}

-- zeros
blank-is : (n : ℕ) → is_blank (blank n) ≡ true
unfolding blank
blank-is zero = refl
blank-is (suc n) = blank-is n

pub length-blank : (n : ℕ) → length (blank n) ≡ n
unfolding blank
length-blank n = length-replicate n 0

is-blank : (xs : List ℕ) → is_blank xs ≡ true → xs ≡ blank (length xs)
unfolding blank
is-blank [] is = refl
is-blank (x ∷ xs) is =
    let parts = and_parts (x == 0) (is_blank xs) is in
    let first : x ≡ 0 = eqb-true x 0 parts.0 in
    ap (λ y. y ∷ xs) first ∙ ap (λ ys. 0 ∷ ys) (is-blank xs parts.1)

-- parts of a list
part-one : (at : ℕ) (bytes : List ℕ) → at < length bytes → part at 1 bytes ≡ get_or bytes at 0 ∷ []
part-one at bytes there = ap (λ xs. take 1 xs) (drop-cons bytes at 0 there)

part-cons : (at n : ℕ) (bytes : List ℕ) → at < length bytes → part at (suc n) bytes ≡ get_or bytes at 0 ∷ part (at + 1) n bytes
part-cons at n bytes there = ap (λ xs. take (suc n) xs) (drop-cons bytes at 0 there) ∙ ap (λ k. get_or bytes at 0 ∷ take n (drop k bytes)) (sym (add-one at))

pub part-joins : (at m n : ℕ) (bytes : List ℕ) → at + (m + n) ≤ length bytes → part at m bytes ++ part (at + m) n bytes ≡ part at (m + n) bytes
part-joins at m n bytes there = same_number_lists _ _ (grind (arith, places)) (λ k w. grind (arith, places))

pub length-part : (at n : ℕ) (bytes : List ℕ) → at + n ≤ length bytes → length (part at n bytes) ≡ n
length-part at n bytes there = omega (arith, length-take n (drop at bytes), length-drop at bytes)

part-front : (at n : ℕ) (xs ys : List ℕ) → at + n ≤ length xs → part at n (xs ++ ys) ≡ part at n xs
part-front at n xs ys within = same_number_lists _ _ (grind (arith, places)) (λ k w. grind (arith, places))

part-back : (at : ℕ) (xs ys : List ℕ) → at ≡ length xs → part at (length ys) (xs ++ ys) ≡ ys
part-back at xs ys is = same_number_lists _ _ (grind (arith, places)) (λ k w. grind (arith, places))

-- the first pages are those of the first bytes
pub pages-front : (n : ℕ) (xs ys : List ℕ) → 1024 * n ≤ length xs → pages n (xs ++ ys) ≡ pages n xs
unfolding pages
pages-front zero xs ys within = refl
pages-front (suc n) xs ys within =
    ap (λ p. p ++ page (part (1024 * n) 1024 (xs ++ ys))) (pages-front n xs ys (omega (arith, within)))
    ∙ ap (λ p. pages n xs ++ page p) (part-front (1024 * n) 1024 xs ys (omega (arith, within)))

pub pages-next : (n : ℕ) (xs : List ℕ) → pages (suc n) xs ≡ pages n xs ++ page (part (1024 * n) 1024 xs)
unfolding pages
pages-next n xs = refl

-- bytes of bytes
fits-join : (xs ys : List ℕ) → AreBytes xs → AreBytes ys → AreBytes (xs ++ ys)
fits-join [] ys first second k = second k
fits-join (x ∷ xs) ys first second zero = first 0
fits-join (x ∷ xs) ys first second (suc k) = fits-join xs ys (λ j. first (suc j)) second k

fits-none : AreBytes []
fits-none k = lit< tt

fits-blank : (n : ℕ) → AreBytes (blank n)
unfolding blank
fits-blank zero k = lit< tt
fits-blank (suc n) zero = lit< tt
fits-blank (suc n) (suc k) = fits-blank n k

fits-drop : (n : ℕ) (xs : List ℕ) → AreBytes xs → AreBytes (drop n xs)
fits-drop n xs fit k = let same : get_or (drop n xs) k 0 ≡ get_or xs (n + k) 0 = grind (arith, places) in rw same (fit (n + k))

fits-take : (n : ℕ) (xs : List ℕ) → AreBytes xs → AreBytes (take n xs)
fits-take n xs fit k = let here : get_or xs k 0 < 256 = fit k in grind (arith, places)

-- ---- a page that was read

pub record IsPage (bytes : List ℕ) (at : ℕ) (q : Option (List ℕ)) : Type 0 where
  pub spelled : page (page_bytes q) ≡ part at (page_size q) bytes
  pub within : at + page_size q ≤ length bytes
  pub long : length (page_bytes q) ≡ 1024
  pub fit : AreBytes (page_bytes q)

blank-page : (bytes : List ℕ) (at : ℕ) → at + 1 ≤ length bytes → get_or bytes at 0 ≡ 0 → IsPage bytes at None
blank-page bytes at there is =
    record {
      spelled = ap (λ b. cond b (0 ∷ []) (1 ∷ blank 1024)) (blank-is 1024) ∙ sym (part-one at bytes (omega (arith, there)) ∙ ap (λ x. x ∷ []) is);
      within = there;
      long = length-blank 1024;
      fit = fits-blank 1024;
    }

whole-page : (bytes : List ℕ) (at : ℕ) → AreBytes bytes → at + 1025 ≤ length bytes → get_or bytes at 0 ≡ 1 → is_blank (part (at + 1) 1024 bytes) ≡ false → IsPage bytes at (Some (part (at + 1) 1024 bytes))
whole-page bytes at fit there is full =
    let xs = part (at + 1) 1024 bytes in
    record {
      spelled = ap (λ b. cond b (0 ∷ []) (1 ∷ xs)) full ∙ sym (part-cons at 1024 bytes (omega (arith, there)) ∙ ap (λ x. x ∷ xs) is);
      within = there;
      long = length-part (at + 1) 1024 bytes (omega (arith, there));
      fit = fits-take 1024 (drop (at + 1) bytes) (fits-drop (at + 1) bytes fit);
    }

full-back : (bytes : List ℕ) (at k : ℕ) (q : Option (List ℕ)) → AreBytes bytes → get_or bytes at 0 ≡ 1 → full_page bytes at k ≡ Ok q → IsPage bytes at q
full-back bytes at k q fit is all =
    let xs = part (at + 1) 1024 bytes in
    let rest = enough (length bytes) (at + 1025) (Short (length bytes)) (cond (is_blank xs) (Err (Page k)) (Ok (Some xs))) q all in
    elim (cases_Bool (is_blank (part (at + 1) 1024 bytes))) [
      | inl zeros ↦ absurd (let no : Err (Page k) ≡ Ok q = sym (rw zeros refl) ∙ rest.1 in cc)
      | inr full ↦
          let same : Some xs ≡ q = (let both : Ok (Some xs) ≡ Ok q = sym (rw full refl) ∙ rest.1 in cc) in
          subst (λ p. IsPage bytes at p) same (whole-page bytes at fit rest.0 is full)
    ]

byte-back : (bytes : List ℕ) (at k byte : ℕ) (q : Option (List ℕ)) → AreBytes bytes → get_or bytes at 0 ≡ byte → at + 1 ≤ length bytes → cond (byte == 0) (Ok None) (cond (byte == 1) (full_page bytes at k) (Err (Page k))) ≡ Ok q → IsPage bytes at q
byte-back bytes at k byte q fit is there all =
    elim (cases_Bool (byte == 0)) [
      | inl none ↦
          let same : None ≡ q = (let both : Ok None ≡ Ok q = sym (rw none refl) ∙ all in cc) in
          subst (λ p. IsPage bytes at p) same (blank-page bytes at there (is ∙ eqb-true byte 0 none))
      | inr some ↦ elim (cases_Bool (byte == 1)) [
        | inl one ↦
            let full : full_page bytes at k ≡ Ok q = sym (rw (some, one) refl) ∙ all in
            full-back bytes at k q fit (is ∙ eqb-true byte 1 one) full
        | inr other ↦ absurd (let no : Err (Page k) ≡ Ok q = sym (rw (some, other) refl) ∙ all in cc)
      ]
    ]

page-back : (bytes : List ℕ) (at k : ℕ) (q : Option (List ℕ)) → AreBytes bytes → page_from bytes at k ≡ Ok q → IsPage bytes at q
page-back bytes at k q fit all =
    let rest = enough (length bytes) (at + 1) (Short (length bytes)) _ q all in
    byte-back bytes at k (get_or bytes at 0) q fit refl rest.0 rest.1

-- ---- pages that were read

pub record ArePages (bytes : List ℕ) (at n : ℕ) (p : Pages) : Type 0 where
  pub spelled : pages n p.bytes ≡ part at (p.end - at) bytes
  pub order : at ≤ p.end
  pub within : p.end ≤ length bytes
  pub long : length p.bytes ≡ 1024 * n
  pub fit : AreBytes p.bytes

pages-none : (bytes : List ℕ) (at : ℕ) → at ≤ length bytes → ArePages bytes at 0 (record { bytes = []; end = at })
unfolding pages
pages-none bytes at there =
    let none : at - at ≡ 0 = omega arith in
    record { spelled = sym (ap (λ n. part at n bytes) none); order = omega arith; within = there; long = refl; fit = fits-none }

pages-more : (bytes : List ℕ) (at n : ℕ) (p : Pages) (q : Option (List ℕ)) → ArePages bytes at n p → IsPage bytes p.end q → ArePages bytes at (suc n) (more_pages p q)
pages-more bytes at n p q before next =
    let here = part (1024 * n) 1024 (p.bytes ++ page_bytes q) in
    let last : part (1024 * n) 1024 (p.bytes ++ page_bytes q) ≡ page_bytes q
    = ap (λ k. part (1024 * n) k (p.bytes ++ page_bytes q)) (sym next.long) ∙ part-back (1024 * n) p.bytes (page_bytes q) (sym before.long) in
    let count : (p.end - at) + page_size q ≡ p.end + page_size q - at = omega (arith, before.order) in
    let place : at + (p.end - at) ≡ p.end = omega (arith, before.order) in
    record {
      spelled = pages-next n (p.bytes ++ page_bytes q)
          ∙ ap (λ xs. xs ++ page here) (pages-front n p.bytes (page_bytes q) (omega (arith, before.long)))
          ∙ ap (λ xs. pages n p.bytes ++ page xs) last
          ∙ ap (λ xs. xs ++ page (page_bytes q)) before.spelled
          ∙ ap (λ xs. part at (p.end - at) bytes ++ xs) (next.spelled ∙ ap (λ a. part a (page_size q) bytes) (sym place))
          ∙ part-joins at (p.end - at) (page_size q) bytes (omega (arith, before.order, next.within))
          ∙ ap (λ k. part at k bytes) count;
      order = omega (arith, before.order);
      within = next.within;
      long = length-append p.bytes (page_bytes q) ∙ (let e : length p.bytes + length (page_bytes q) ≡ 1024 * suc n = omega (arith, before.long, next.long) in e);
      fit = fits-join p.bytes (page_bytes q) before.fit next.fit;
    }

pub pages-start : (bytes : List ℕ) (at : ℕ) → pages_from bytes at 0 ≡ Ok (record { bytes = []; end = at })
unfolding pages_from
pages-start bytes at = refl

pub pages-step : (bytes : List ℕ) (at n : ℕ) → pages_from bytes at (suc n) ≡ (pages_from bytes at n >>= λ before. page_from bytes before.end n >>= λ q. Ok (more_pages before q))
unfolding pages_from
pages-step bytes at n = refl

pub pages-back : (bytes : List ℕ) (at n : ℕ) (p : Pages) → AreBytes bytes → at ≤ length bytes → pages_from bytes at n ≡ Ok p → ArePages bytes at n p
pages-back bytes at zero p fit there is =
    let same : record { bytes = []; end = at } ≡ p = (let both : Ok (record { bytes = []; end = at }) ≡ Ok p = sym (pages-start bytes at) ∙ is in cc) in
    subst (λ v. ArePages bytes at 0 v) same (pages-none bytes at there)
pages-back bytes at (suc n) p fit there is =
    let one = past (pages_from bytes at n) (λ before. page_from bytes before.end n >>= λ q. Ok (more_pages before q)) p (sym (pages-step bytes at n) ∙ is) in
    let two = past (page_from bytes one.0.end n) (λ q. Ok (more_pages one.0 q)) p one.2 in
    let same : more_pages one.0 two.0 ≡ p = cc (two.2) in
    subst (λ v. ArePages bytes at (suc n) v) same (pages-more bytes at n one.0 two.0 (pages-back bytes at n one.0 fit there one.1) (page-back bytes one.0.end n two.0 fit two.1))

-- ---- pages that stand in an image

pub record IsThere (bytes : List ℕ) (at k : ℕ) (xs : List ℕ) : Type 0 where
  pub q : Option (List ℕ)
  pub read : page_from bytes at k ≡ Ok q
  pub bytes_are : page_bytes q ≡ xs
  pub size : page_size q ≡ length (page xs)

head-of : (at n : ℕ) (x : ℕ) (xs bytes : List ℕ) → at < length bytes → part at (suc n) bytes ≡ x ∷ xs → (get_or bytes at 0 ≡ x) × (part (at + 1) n bytes ≡ xs)
head-of at n x xs bytes there is = let both : get_or bytes at 0 ∷ part (at + 1) n bytes ≡ x ∷ xs = sym (part-cons at n bytes there) ∙ is in (cc, cc)

zeros-there : (bytes : List ℕ) (at k : ℕ) (xs : List ℕ) → length xs ≡ 1024 → is_blank xs ≡ true → at + 1 ≤ length bytes → part at 1 bytes ≡ 0 ∷ [] → IsThere bytes at k xs
zeros-there bytes at k xs long zeros there piece =
    let byte : get_or bytes at 0 ≡ 0 = (head-of at 0 0 [] bytes (omega (arith, there)) piece).0 in
    record {
      q = None;
      read = not-short (length bytes) (at + 1) (Short (length bytes)) _ there ∙ ap (λ b. cond (b == 0) (Ok None) (cond (b == 1) (full_page bytes at k) (Err (Page k)))) byte;
      bytes_are = sym (is-blank xs zeros ∙ ap blank long);
      size = sym (ap (λ b. length (cond b (0 ∷ []) (1 ∷ xs))) zeros);
    }

full-there : (bytes : List ℕ) (at k : ℕ) (xs : List ℕ) → length xs ≡ 1024 → is_blank xs ≡ false → at + 1025 ≤ length bytes → part at 1025 bytes ≡ 1 ∷ xs → IsThere bytes at k xs
full-there bytes at k xs long full there piece =
    let parts = head-of at 1024 1 xs bytes (omega (arith, there)) piece in
    let none : is_blank (part (at + 1) 1024 bytes) ≡ false = ap is_blank parts.1 ∙ full in
    record {
      q = Some (part (at + 1) 1024 bytes);
      read = not-short (length bytes) (at + 1) (Short (length bytes)) _ (omega (arith, there))
          ∙ ap (λ b. cond (b == 0) (Ok None) (cond (b == 1) (full_page bytes at k) (Err (Page k)))) parts.0
          ∙ not-short (length bytes) (at + 1025) (Short (length bytes)) _ there
          ∙ ap (λ b. cond b (Err (Page k)) (Ok (Some (part (at + 1) 1024 bytes)))) none;
      bytes_are = parts.1;
      size = sym (ap (λ b. length (cond b (0 ∷ []) (1 ∷ xs))) full ∙ ap suc long);
    }

page-there : (bytes : List ℕ) (at k : ℕ) (xs : List ℕ) → length xs ≡ 1024 → at + length (page xs) ≤ length bytes → part at (length (page xs)) bytes ≡ page xs → IsThere bytes at k xs
page-there bytes at k xs long there piece =
    elim (cases_Bool (is_blank xs)) [
      | inl zeros ↦
          let is : page xs ≡ 0 ∷ [] = ap (λ b. cond b (0 ∷ []) (1 ∷ xs)) zeros in
          let count : length (page xs) ≡ 1 = ap length is in
          zeros-there bytes at k xs long zeros (omega (arith, there, count)) (ap (λ n. part at n bytes) (sym count) ∙ piece ∙ is)
      | inr full ↦
          let is : page xs ≡ 1 ∷ xs = ap (λ b. cond b (0 ∷ []) (1 ∷ xs)) full in
          let count : length (page xs) ≡ 1025 = ap length is ∙ ap suc long in
          full-there bytes at k xs long full (omega (arith, there, count)) (ap (λ n. part at n bytes) (sym count) ∙ piece ∙ is)
    ]

-- the front and the back of a part
split-part : (at : ℕ) (xs ys bytes : List ℕ) → at + length (xs ++ ys) ≤ length bytes → part at (length (xs ++ ys)) bytes ≡ xs ++ ys
    → (part at (length xs) bytes ≡ xs) × (part (at + length xs) (length ys) bytes ≡ ys)
split-part at xs ys bytes there piece =
    let count : length (xs ++ ys) ≡ length xs + length ys = length-append xs ys in
    let joined : part at (length xs) bytes ++ part (at + length xs) (length ys) bytes ≡ xs ++ ys
    = part-joins at (length xs) (length ys) bytes (omega (arith, there, count)) ∙ ap (λ n. part at n bytes) (sym count) ∙ piece in
    let front : length (part at (length xs) bytes) ≡ length xs = length-part at (length xs) bytes (omega (arith, there, count)) in
    let first : part at (length xs) bytes ≡ xs
    = sym (take-append_seam (part at (length xs) bytes) (part (at + length xs) (length ys) bytes)) ∙ ap (λ n. take n (part at (length xs) bytes ++ part (at + length xs) (length ys) bytes)) front ∙ ap (λ l. take (length xs) l) joined ∙ take-append_seam xs ys in
    let second : part (at + length xs) (length ys) bytes ≡ ys
    = sym (drop-append_seam (part at (length xs) bytes) (part (at + length xs) (length ys) bytes)) ∙ ap (λ n. drop n (part at (length xs) bytes ++ part (at + length xs) (length ys) bytes)) front ∙ ap (λ l. drop (length xs) l) joined ∙ drop-append_seam xs ys in
    (first, second)

take-more : (n : ℕ) (xs : List ℕ) → take (1024 * n) xs ++ part (1024 * n) 1024 xs ≡ take (1024 * suc n) xs
take-more n xs = sym (take-add (1024 * n) 1024 xs) ∙ ap (λ k. take k xs) (let e : 1024 * n + 1024 ≡ 1024 * suc n = omega arith in e)

no-pages : (memory : List ℕ) → pages 0 memory ≡ []
unfolding pages
no-pages memory = refl

pub pages-there : (bytes : List ℕ) (at n : ℕ) (memory : List ℕ) → 1024 * n ≤ length memory → at + length (pages n memory) ≤ length bytes → part at (length (pages n memory)) bytes ≡ pages n memory
    → pages_from bytes at n ≡ Ok (record { bytes = take (1024 * n) memory; end = at + length (pages n memory) })
pages-there bytes at zero memory within there piece =
    let none : length (pages 0 memory) ≡ 0 = ap length (no-pages memory) in
    let end : at + length (pages 0 memory) ≡ at = omega (arith, none) in
    pages-start bytes at ∙ ap (λ e. Ok (record { bytes = []; end = e })) (sym end)
pages-there bytes at (suc n) memory within there piece =
    let xs = part (1024 * n) 1024 memory in
    let next : pages (suc n) memory ≡ pages n memory ++ page (part (1024 * n) 1024 memory) = pages-next n memory in
    let count : length (pages (suc n) memory) ≡ length (pages n memory) + length (page (part (1024 * n) 1024 memory)) = ap length next ∙ length-append (pages n memory) (page xs) in
    let parts = split-part at (pages n memory) (page xs) bytes (omega (arith, there, ap length next)) (ap (λ l. part at (length l) bytes) (sym next) ∙ piece ∙ next) in
    let before = pages-there bytes at n memory (omega (arith, within)) (omega (arith, there, count)) parts.0 in
    let one : IsThere bytes (at + length (pages n memory)) n (part (1024 * n) 1024 memory)
    = page-there bytes (at + length (pages n memory)) n xs (length-part (1024 * n) 1024 memory (omega (arith, within))) (omega (arith, there, count)) parts.1 in
    let made : more_pages (record { bytes = take (1024 * n) memory; end = at + length (pages n memory) }) one.q ≡ record { bytes = take (1024 * suc n) memory; end = at + length (pages (suc n) memory) }
    = λ i. record {
      bytes = (ap (λ l. take (1024 * n) memory ++ l) one.bytes_are ∙ take-more n memory) i;
      end = (ap (λ s. at + length (pages n memory) + s) one.size ∙ (let e : at + length (pages n memory) + length (page (part (1024 * n) 1024 memory)) ≡ at + length (pages (suc n) memory) = omega (arith, count) in e)) i;
    } in
    pages-step bytes at n
    ∙ then (pages_from bytes at n) (λ before. page_from bytes before.end n >>= λ q. Ok (more_pages before q)) (record { bytes = take (1024 * n) memory; end = at + length (pages n memory) }) _ before
    (then (page_from bytes (at + length (pages n memory)) n) (λ q. Ok (more_pages (record { bytes = take (1024 * n) memory; end = at + length (pages n memory) }) q)) one.q _ one.read (ap Ok made))

-- ---- memory

pub memory-back : (bytes : List ℕ) (at kib : ℕ) (m : Memory) → AreBytes bytes → at ≤ length bytes → memory_from bytes at kib ≡ Ok m → (m ≡ bare m.bytes) × (length m.bytes ≡ 1024 * kib) × (pages kib m.bytes ≡ part at (length bytes - at) bytes) × AreBytes m.bytes
unfolding memory_from
memory-back bytes at kib m fit there is =
    let one = past (pages_from bytes at kib) (λ p. only_if (nat_le (length bytes) p.end) (Extra p.end) (bare p.bytes)) m is in
    let all : ArePages bytes at kib one.0 = pages-back bytes at kib one.0 fit there one.1 in
    let last = passed (nat_le (length bytes) one.0.end) (Extra one.0.end) (bare one.0.bytes) m one.2 in
    let end : one.0.end ≡ length bytes = (let past_end : length bytes ≤ one.0.end = grind (arith, nat_tests, last.0) in omega (arith, all.within)) in
    subst (λ v. (v ≡ bare v.bytes) × (length v.bytes ≡ 1024 * kib) × (pages kib v.bytes ≡ part at (length bytes - at) bytes) × AreBytes v.bytes) last.1
    (refl, all.long, all.spelled ∙ ap (λ e. part at (e - at) bytes) end, all.fit)

take-whole : (n : ℕ) (xs : List ℕ) → length xs ≡ n → take n xs ≡ xs
take-whole n xs is = same_number_lists _ _ (grind (arith, places)) (λ k w. grind (arith, places))

pub memory-there : (bytes : List ℕ) (at kib : ℕ) (memory : List ℕ) → length memory ≡ 1024 * kib → at + length (pages kib memory) ≡ length bytes → part at (length (pages kib memory)) bytes ≡ pages kib memory → memory_from bytes at kib ≡ Ok (bare memory)
unfolding memory_from
memory-there bytes at kib memory long there piece =
    let p : Pages = record { bytes = take (1024 * kib) memory; end = at + length (pages kib memory) } in
    let last : nat_le (length bytes) (at + length (pages kib memory)) ≡ true = grind (arith, nat_tests) in
    then (pages_from bytes at kib) (λ p. only_if (nat_le (length bytes) p.end) (Extra p.end) (bare p.bytes)) p _ (pages-there bytes at kib memory (omega (arith, long)) (omega (arith, there)) piece)
    (passes (nat_le (length bytes) (at + length (pages kib memory))) (Extra (at + length (pages kib memory))) (bare (take (1024 * kib) memory)) last ∙ ap (λ xs. Ok (bare xs)) (take-whole (1024 * kib) memory long))

-- ---- a whole page as the code reads it

pub full-blank : (bytes : List ℕ) (at k : ℕ) → at + 1025 ≤ length bytes → is_blank (part (at + 1) 1024 bytes) ≡ true → full_page bytes at k ≡ Err (Page k)
full-blank bytes at k there zeros = not-short (length bytes) (at + 1025) (Short (length bytes)) _ there ∙ ap (λ b. cond b (Err (Page k)) (Ok (Some (part (at + 1) 1024 bytes)))) zeros

pub full-some : (bytes : List ℕ) (at k : ℕ) → at + 1025 ≤ length bytes → is_blank (part (at + 1) 1024 bytes) ≡ false → full_page bytes at k ≡ Ok (Some (part (at + 1) 1024 bytes))
full-some bytes at k there full = not-short (length bytes) (at + 1025) (Short (length bytes)) _ there ∙ ap (λ b. cond b (Err (Page k)) (Ok (Some (part (at + 1) 1024 bytes)))) full

pub size-most : (page : Option (List ℕ)) → page_size page ≤ 1025
size-most None = omega arith
size-most (Some bytes) = omega arith
