-- Memory that is filled page by page.
use Rattle.std.proofs.Common.{◌≡◌, inr, ℕ, zero, suc, ◌+◌, ◌-◌, ◌*◌, ◌/◌, ◌<◌, ◌≤◌, nat_le, true, false, List, ◌++◌, length, take, drop, replicate, get_or, Option, Ok, Err, arith, ap, sym, subst, ◌∙◌, append_assoc, length-append, length-take}
use Rattle.std.proofs.lemmas.Bool.Decides.{nat_tests}
use Rattle.std.proofs.lemmas.Grind.{same_number_lists}
use Rattle.std.proofs.lemmas.List.{length-replicate, places}
use Rattle.std.proofs.Math.Seq.{take-append_seam}
use Rattle.mix_bits.specs.Results.{◌>>=◌}
use Rattle.big_memory.specs.Lists.{part, put}
use Rattle.big_memory.proofs.Lists.{get_or-put_outside, length-put, put-part}
use Rattle.big_memory.specs.Memory.{Memory, with_bytes, zeroed}
use Rattle.switch_frame.specs.Program.{blank}
use Rattle.mix_image.specs.declared.error.ImageError.{ImageError}
use Rattle.mix_image.specs.declared.error.ImageError.TheVariants.{Extra}
use Rattle.mix_image.specs.Fields.{Pages, bare, memory_from, more_pages, only_if, page_bytes, page_from, page_size, pages_from}
use Rattle.mix_image.proofs.Binds.{passes, then}
use Rattle.mix_image.proofs.Pagings.{pages-start, pages-step}

-- the first k pages were read, and all bytes behind them are 0
pub record IsReadTo (bytes : List ℕ) (at kib k end : ℕ) (m : Memory) : Type 0 where
  pub read : pages_from bytes at k ≡ Ok (record { bytes = take (1024 * k) m.bytes; end = end })
  pub rest : (i : ℕ) → 1024 * k ≤ i → get_or m.bytes i 0 ≡ 0
  pub long : length m.bytes ≡ 1024 * kib
  pub marks : m.marks ≡ replicate (length m.bytes / 16) false
  pub within : end ≤ length bytes

zero-at : (n i : ℕ) → ◌≡◌ {A = ℕ} (get_or (replicate n 0) i 0) 0
zero-at n i = grind (arith, places)

read-zeroed : (bytes : List ℕ) (at kib : ℕ) → at ≤ length bytes → IsReadTo bytes at kib 0 at (zeroed (1024 * kib))
read-zeroed bytes at kib there =
    let long : length (replicate (1024 * kib) 0) ≡ 1024 * kib = length-replicate (1024 * kib) 0 in
    record {
      read = pages-start bytes at;
      rest = λ i from. zero-at (1024 * kib) i;
      long = long;
      marks = ap (λ n. replicate (n / 16) false) (sym long);
      within = there;
    }

pub read-none : (bytes : List ℕ) (at kib : ℕ) (m : Memory) → at ≤ length bytes → m ≡ zeroed (1024 * kib) → IsReadTo bytes at kib 0 at m
read-none bytes at kib m there is = subst (λ v. IsReadTo bytes at kib 0 at v) (sym is) (read-zeroed bytes at kib there)

-- a piece put behind the first n bytes
front-put : (n : ℕ) (ys xs : List ℕ) → n + length ys ≤ length xs → take (n + length ys) (put n ys xs) ≡ take n xs ++ ys
front-put n ys xs within =
    let long : length (take n xs ++ ys) ≡ n + length ys = length-append (take n xs) ys ∙ (let e : length (take n xs) + length ys ≡ n + length ys = omega (arith, length-take n xs) in e) in
    ap (λ l. take (n + length ys) l) (sym (append_assoc (take n xs) ys (drop (n + length ys) xs)))
    ∙ ap (λ k. take k ((take n xs ++ ys) ++ drop (n + length ys) xs)) (sym long)
    ∙ take-append_seam (take n xs ++ ys) (drop (n + length ys) xs)

read-put : (bytes : List ℕ) (at kib k end : ℕ) (m : Memory) (q : Option (List ℕ)) → IsReadTo bytes at kib k end m → k < kib → page_from bytes end k ≡ Ok q → length (page_bytes q) ≡ 1024 → end + page_size q ≤ length bytes
    → IsReadTo bytes at kib (k + 1) (end + page_size q) (with_bytes (1024 * k) (page_bytes q) m)
read-put bytes at kib k end m q before less read size within =
    let ys = page_bytes q in
    let fits : 1024 * k + length (page_bytes q) ≤ length m.bytes = omega (arith, before.long, size) in
    let same : length (put (1024 * k) ys m.bytes) ≡ length m.bytes = length-put (1024 * k) ys m.bytes fits in
    let next : k + 1 ≡ suc k = omega arith in
    let place : 1024 * k + length (page_bytes q) ≡ 1024 * (k + 1) = omega (arith, size) in
    let front : take (1024 * k) m.bytes ++ page_bytes q ≡ take (1024 * (k + 1)) (put (1024 * k) (page_bytes q) m.bytes) = sym (front-put (1024 * k) ys m.bytes fits) ∙ ap (λ n. take n (put (1024 * k) ys m.bytes)) place in
    let p : Pages = record { bytes = take (1024 * k) m.bytes; end = end } in
    record {
      read = ap (λ n. pages_from bytes at n) next
          ∙ pages-step bytes at k
          ∙ then (pages_from bytes at k) (λ before. page_from bytes before.end k >>= λ q. Ok (more_pages before q)) p _ before.read
          (then (page_from bytes end k) (λ q. Ok (more_pages p q)) q _ read (ap (λ xs. Ok (record { bytes = xs; end = end + page_size q })) front));
      rest = λ i from. get_or-put_outside (1024 * k) i ys m.bytes 0 fits (inr (omega (arith, place, from))) ∙ before.rest i (omega (arith, from));
      long = same ∙ before.long;
      marks = before.marks ∙ ap (λ n. replicate (n / 16) false) (sym same);
      within = within;
    }

pub read-more : (bytes : List ℕ) (at kib k end : ℕ) (m new : Memory) (q : Option (List ℕ)) → IsReadTo bytes at kib k end m → k < kib → page_from bytes end k ≡ Ok q → length (page_bytes q) ≡ 1024 → end + page_size q ≤ length bytes
    → new ≡ with_bytes (1024 * k) (page_bytes q) m → IsReadTo bytes at kib (k + 1) (end + page_size q) new
read-more bytes at kib k end m new q before less read size within is = subst (λ v. IsReadTo bytes at kib (k + 1) (end + page_size q) v) (sym is) (read-put bytes at kib k end m q before less read size within)

-- zeros put over zeros
pub blank-put : (n k : ℕ) (m : Memory) → k + n ≤ length m.bytes → ((i : ℕ) → k ≤ i → get_or m.bytes i 0 ≡ 0) → m ≡ with_bytes k (blank n) m
unfolding blank
blank-put n k m there zeros =
    let piece : part k n m.bytes ≡ replicate n 0 = same_number_lists _ _ (grind (arith, places)) (λ i w. let here = zeros (k + i) (omega arith) in grind (arith, places)) in
    λ i. record { bytes = (sym (put-part k n m.bytes there) ∙ ap (λ ys. put k ys m.bytes) piece) i; marks = m.marks }

take-all : (n : ℕ) (xs : List ℕ) → length xs ≡ n → take n xs ≡ xs
take-all n xs is = same_number_lists _ _ (grind (arith, places)) (λ k w. grind (arith, places))

bare-is : (m : Memory) → m.marks ≡ replicate (length m.bytes / 16) false → bare m.bytes ≡ m
bare-is m marks = λ i. record { bytes = m.bytes; marks = sym marks i }

end-read : (bytes : List ℕ) (at kib end : ℕ) (m : Memory) → IsReadTo bytes at kib kib end m → pages_from bytes at kib ≡ Ok (record { bytes = m.bytes; end = end })
end-read bytes at kib end m all = all.read ∙ ap (λ xs. Ok (record { bytes = xs; end = end })) (take-all (1024 * kib) m.bytes all.long)

pub read-all : (bytes : List ℕ) (at kib end : ℕ) (m : Memory) → IsReadTo bytes at kib kib end m → length bytes ≤ end → memory_from bytes at kib ≡ Ok m
unfolding memory_from
read-all bytes at kib end m all last =
    let test : nat_le (length bytes) end ≡ true = grind (arith, nat_tests) in
    then (pages_from bytes at kib) (λ p. only_if (nat_le (length bytes) p.end) (Extra p.end) (bare p.bytes)) (record { bytes = m.bytes; end = end }) (Ok m) (end-read bytes at kib end m all)
    (passes (nat_le (length bytes) end) (Extra end) (bare m.bytes) test ∙ ap Ok (bare-is m all.marks))

pub read-extra : (bytes : List ℕ) (at kib end : ℕ) (m : Memory) → IsReadTo bytes at kib kib end m → end < length bytes → memory_from bytes at kib ≡ Err (Extra end)
unfolding memory_from
read-extra bytes at kib end m all more =
    let test : nat_le (length bytes) end ≡ false = grind (arith, nat_tests) in
    then (pages_from bytes at kib) (λ p. only_if (nat_le (length bytes) p.end) (Extra p.end) (bare p.bytes)) (record { bytes = m.bytes; end = end }) (Err (Extra end)) (end-read bytes at kib end m all)
    (ap (λ b. only_if b (Extra end) (bare m.bytes)) test)

pub stopped-on : (bytes : List ℕ) (at k more : ℕ) (e : ImageError) → pages_from bytes at k ≡ Err e → pages_from bytes at (k + more) ≡ Err e
stopped-on bytes at k zero e is = let same : k + 0 ≡ k = omega arith in ap (λ n. pages_from bytes at n) same ∙ is
stopped-on bytes at k (suc more) e is =
    let next : k + suc more ≡ suc (k + more) = omega arith in
    ap (λ n. pages_from bytes at n) next ∙ pages-step bytes at (k + more)
    ∙ ap (λ r. r >>= λ before. page_from bytes before.end (k + more) >>= λ q. Ok (more_pages before q)) (stopped-on bytes at k more e is)

pub read-stops : (bytes : List ℕ) (at kib k end : ℕ) (m : Memory) (e : ImageError) → IsReadTo bytes at kib k end m → k < kib → page_from bytes end k ≡ Err e → memory_from bytes at kib ≡ Err e
unfolding memory_from
read-stops bytes at kib k end m e before less refused =
    let p : Pages = record { bytes = take (1024 * k) m.bytes; end = end } in
    let here : pages_from bytes at (suc k) ≡ Err e
    = pages-step bytes at k
    ∙ then (pages_from bytes at k) (λ before. page_from bytes before.end k >>= λ q. Ok (more_pages before q)) p (Err e) before.read (ap (λ r. r >>= λ q. Ok (more_pages p q)) refused) in
    let all : suc k + (kib - suc k) ≡ kib = omega arith in
    ap (λ r. r >>= λ p. only_if (nat_le (length bytes) p.end) (Extra p.end) (bare p.bytes)) (ap (λ n. pages_from bytes at n) (sym all) ∙ stopped-on bytes at (suc k) (kib - suc k) e here)
