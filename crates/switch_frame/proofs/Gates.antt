-- Laws of the gate page.
use Rattle.std.proofs.Common.{◌≡◌, ◌⊎◌, inl, inr, ℕ, zero, suc, ◌+◌, ◌-◌, ◌*◌, ◌/◌, ◌%◌, ◌^◌, ◌<◌, ◌≤◌, ◌==◌, nat_le, nat_lt, Bool, true, false, ◌&&◌, if◌then◌else◌, lit<, lit≤, List, length, drop, get_or, replicate, Some, None, arith, add-zero, ap, sym, subst, ◌∙◌, refl}
use Rattle.std.proofs.lemmas.Bool.{cases_Bool, cases_lt}
use Rattle.std.proofs.lemmas.Bool.Decides.{nat_tests}
use Rattle.std.proofs.lemmas.List.{ext_get_or, places}
use Rattle.byteorder.specs.Endian.{big_bytes}
use Rattle.big_memory.specs.Lists.{part, put}
use Rattle.big_memory.specs.Map.{host_vector_at, host_code_at, host_functions}
use Rattle.big_memory.proofs.Lists.{get_or-put_inside, get_or-put_outside, length-put, part-put_apart}
use Rattle.big_memory.specs.Numbers.{AreBytes, bytes_of_longs, long_at, longs_at}
use Rattle.switch_frame.specs.Pieces.{puts}
use Rattle.switch_frame.specs.Program.{Stands, blank, gate_long, gate_longs, told, vector_long, vectors}
use Rattle.switch_frame.specs.laws.Program.{page_bytes}
use Rattle.switch_frame.specs.laws.GateLaws.{LengthOfBlank, LongsArePage, PageByBytes, PageHasLongs}
use Rattle.big_memory.proofs.Numbers.{length_of_longs, long_in_part, long_of_longs, long_reads_back, longs_again, longs_fit}

-- a long put at an address, read there
long-same : (a b v : ℕ) (xs : List ℕ) → (a == b) ≡ true → b + 4 ≤ length xs → long_at a (put b (big_bytes 4 v) xs) ≡ v % 2 ^ 32
long-same a b v xs same within =
    let place : a ≡ b = grind (arith, nat_tests) in ap (λ c. long_at c (put b (big_bytes 4 v) xs)) place ∙ long_reads_back b v xs within

-- and read at another multiple of 4
long-alone : (a : ℕ) (xs : List ℕ) → long_at a xs ≡ long_at 0 (part a 4 xs)
long-alone a xs = sym (long_in_part a 4 0 xs (lit≤ tt) ∙ ap (λ b. long_at b xs) (add-zero a))

apart-longs : (a b : ℕ) → a % 4 ≡ 0 → b % 4 ≡ 0 → (a == b) ≡ false → (a + 4 ≤ b) ⊎ (b + 4 ≤ a)
apart-longs a b first second other =
    elim (cases_lt a b) [
      | inl below ↦ inl (omega arith)
      | inr above ↦ elim (cases_lt b a) [
        | inl more ↦ inr (omega arith)
        | inr same ↦ absurd (let yes : (a == b) ≡ true = grind (arith, nat_tests) in let e : true ≡ false = sym yes ∙ other in cc)
      ]
    ]

long-beside : (a b v : ℕ) (xs : List ℕ) → a % 4 ≡ 0 → b % 4 ≡ 0 → (a == b) ≡ false → b + 4 ≤ length xs → long_at a (put b (big_bytes 4 v) xs) ≡ long_at a xs
long-beside a b v xs first second other within =
    long-alone a (put b (big_bytes 4 v) xs)
    ∙ ap (long_at 0) (part-put_apart a 4 b (big_bytes 4 v) xs (omega arith) (apart-longs a b first second other)) ∙ sym (long-alone a xs)

-- memory in which nothing was put
blank-byte : (a i n : ℕ) → ◌≡◌ {A = ℕ} (get_or (drop a (replicate n 0)) i 0) 0
blank-byte a i n = grind (arith, places)

blank-long : (a n : ℕ) → long_at a (blank n) ≡ 0
unfolding long_at blank
blank-long a n = rw (blank-byte a 0 n, blank-byte a 1 n, blank-byte a 2 n, blank-byte a 3 n) refl

pub length-blank : LengthOfBlank
unfolding blank
length-blank n = grind (arith, places)

-- the vectors of host functions
vectors-length : (n len : ℕ) → n ≤ host_functions → 0x2000 ≤ len → length (puts (vectors n) (blank len)) ≡ len
unfolding vectors
vectors-length zero len few most = length-blank len
vectors-length (suc n) len few most =
    let xs = puts (vectors n) (blank len) in
    let before : length (puts (vectors n) (blank len)) ≡ len = vectors-length n len (omega arith) most in
    let one : length (put (host_vector_at n) (big_bytes 4 (host_code_at n)) xs) ≡ length xs = length-put (host_vector_at n) (big_bytes 4 (host_code_at n)) xs (omega (arith, before)) in
    length-put (host_vector_at n + 4) (big_bytes 4 0) (put (host_vector_at n) (big_bytes 4 (host_code_at n)) xs) (omega (arith, before, one)) ∙ one ∙ before

second-zero : (n a : ℕ) → (a == host_vector_at n + 4) ≡ true → vector_long (suc n) a ≡ 0
unfolding vector_long
second-zero n a is =
    let odd : (a % 8 == 0) ≡ false = grind (arith, nat_tests) in
    grind (arith, nat_tests)

first-code : (n a : ℕ) → (a == host_vector_at n) ≡ true → vector_long (suc n) a ≡ host_code_at n
unfolding vector_long
first-code n a is =
    let place : a ≡ host_vector_at n = grind (arith, nat_tests) in
    let low : nat_le (host_vector_at 0) a ≡ true = grind (arith, nat_tests) in
    let high : nat_lt a (host_vector_at (suc n)) ≡ true = grind (arith, nat_tests) in
    let even : (a % 8 == 0) ≡ true = grind (arith, nat_tests) in
    let index : (a - host_vector_at 0) / 8 ≡ n = omega arith in
    rw (low, high, even) (ap host_code_at index)

none-more : (n a : ℕ) → a % 4 ≡ 0 → (a == host_vector_at n + 4) ≡ false → (a == host_vector_at n) ≡ false → vector_long (suc n) a ≡ vector_long n a
unfolding vector_long
none-more n a aligned other first =
    let same : nat_lt a (host_vector_at (suc n)) ≡ nat_lt a (host_vector_at n) = grind (arith, nat_tests) in
    rw same refl

vectors-long : (n a len : ℕ) → n ≤ host_functions → 0x2000 ≤ len → a % 4 ≡ 0 → long_at a (puts (vectors n) (blank len)) ≡ vector_long n a
unfolding vectors vector_long
vectors-long zero a len few most aligned =
    blank-long a len ∙ (let none : (nat_le (host_vector_at 0) a && nat_lt a (host_vector_at 0)) ≡ false = grind (arith, nat_tests) in rw none refl)
vectors-long (suc n) a len few most aligned =
    let xs = puts (vectors n) (blank len) in
    let ys = put (host_vector_at n) (big_bytes 4 (host_code_at n)) xs in
    let before : length (puts (vectors n) (blank len)) ≡ len = vectors-length n len (omega arith) most in
    let one : length (put (host_vector_at n) (big_bytes 4 (host_code_at n)) xs) ≡ length xs = length-put (host_vector_at n) (big_bytes 4 (host_code_at n)) xs (omega (arith, before)) in
    elim (cases_Bool (a == host_vector_at n + 4)) [
      | inl second ↦ long-same a (host_vector_at n + 4) 0 ys second (omega (arith, before, one)) ∙ sym (second-zero n a second)
      | inr other ↦ long-beside a (host_vector_at n + 4) 0 ys aligned (omega arith) other (omega (arith, before, one)) ∙ elim (cases_Bool (a == host_vector_at n)) [
        | inl first ↦ long-same a (host_vector_at n) (host_code_at n) xs first (omega (arith, before)) ∙ (let small : host_code_at n % 2 ^ 32 ≡ host_code_at n = omega arith in small) ∙ sym (first-code n a first)
        | inr none ↦ long-beside a (host_vector_at n) (host_code_at n) xs aligned (omega arith) none (omega (arith, before)) ∙ vectors-long n a len (omega arith) most aligned ∙ sym (none-more n a aligned other none)
      ]
    ]

-- the longs before the vectors
others : (a b c : ℕ) → (a == b) ≡ true → (b == c) ≡ false → (a == c) ≡ false
others a b c same other = grind (arith, nat_tests)

abbrev told_long : ℕ → ℕ → ℕ → ℕ → ℕ → ℕ → ℕ
told_long entry vector a5 size rest a =
    if a == 0x1020 then entry else (if a == 0x1024 then vector else (if a == 0x1028 then a5 else (if a == 0x102C then size else rest)))

by-tests : (t u v w : Bool) (a b c d e x : ℕ) → (t ≡ true → x ≡ a) → (u ≡ true → x ≡ b) → (v ≡ true → x ≡ c) → (w ≡ true → x ≡ d) → (t ≡ false → u ≡ false → v ≡ false → w ≡ false → x ≡ e)
    → x ≡ (if t then a else (if u then b else (if v then c else (if w then d else e))))
by-tests true u v w a b c d e x f g h i j = f refl
by-tests false true v w a b c d e x f g h i j = g refl
by-tests false false true w a b c d e x f g h i j = h refl
by-tests false false false true a b c d e x f g h i j = i refl
by-tests false false false false a b c d e x f g h i j = j refl refl refl refl

told-is : (entry vector a5 size rest a : ℕ) (xs : List ℕ) → a % 4 ≡ 0 → 0x2000 ≤ length xs → long_at a xs ≡ rest
    → long_at a (put 0x102C (big_bytes 4 size) (put 0x1028 (big_bytes 4 a5) (put 0x1024 (big_bytes 4 vector) (put 0x1020 (big_bytes 4 entry) xs))))
    ≡ told_long (entry % 2 ^ 32) (vector % 2 ^ 32) (a5 % 2 ^ 32) (size % 2 ^ 32) rest a
told-is entry vector a5 size rest a xs aligned most is =
    let first = put 0x1020 (big_bytes 4 entry) xs in
    let second = put 0x1024 (big_bytes 4 vector) first in
    let third = put 0x1028 (big_bytes 4 a5) second in
    let one : length (put 0x1020 (big_bytes 4 entry) xs) ≡ length xs = length-put 0x1020 (big_bytes 4 entry) xs (omega (arith, most)) in
    let two : length (put 0x1024 (big_bytes 4 vector) first) ≡ length first = length-put 0x1024 (big_bytes 4 vector) first (omega (arith, most, one)) in
    let three : length (put 0x1028 (big_bytes 4 a5) second) ≡ length second = length-put 0x1028 (big_bytes 4 a5) second (omega (arith, most, one, two)) in
    let below : 0x1020 + 4 ≤ length xs = omega (arith, most) in
    let below_first : 0x1024 + 4 ≤ length first = omega (arith, most, one) in
    let below_second : 0x1028 + 4 ≤ length second = omega (arith, most, one, two) in
    let below_third : 0x102C + 4 ≤ length third = omega (arith, most, one, two, three) in
    let past_size = λ (none : (a == 0x102C) ≡ false). long-beside a 0x102C size third aligned refl none below_third in
    let past_a5 = λ (none : (a == 0x1028) ≡ false). long-beside a 0x1028 a5 second aligned refl none below_second in
    let past_vector = λ (none : (a == 0x1024) ≡ false). long-beside a 0x1024 vector first aligned refl none below_first in
    by-tests (a == 0x1020) (a == 0x1024) (a == 0x1028) (a == 0x102C) (entry % 2 ^ 32) (vector % 2 ^ 32) (a5 % 2 ^ 32) (size % 2 ^ 32) rest _
    (λ here. past_size (others a 0x1020 0x102C here refl) ∙ past_a5 (others a 0x1020 0x1028 here refl) ∙ past_vector (others a 0x1020 0x1024 here refl) ∙ long-same a 0x1020 entry xs here below)
    (λ here. past_size (others a 0x1024 0x102C here refl) ∙ past_a5 (others a 0x1024 0x1028 here refl) ∙ long-same a 0x1024 vector first here below_first)
    (λ here. past_size (others a 0x1028 0x102C here refl) ∙ long-same a 0x1028 a5 second here below_second)
    (λ here. long-same a 0x102C size third here below_third)
    (λ not_entry not_vector not_a5 not_size. past_size not_size ∙ past_a5 not_a5 ∙ past_vector not_vector ∙ long-beside a 0x1020 entry xs aligned refl not_entry below ∙ is)

-- a long of the page as it is put into memory
put-is : (entry vector a5 size a : ℕ) → a % 4 ≡ 0
    → long_at a (puts (gate_longs entry vector a5 size) (blank 0x2000)) ≡ told_long (entry % 2 ^ 32) (vector % 2 ^ 32) (a5 % 2 ^ 32) (size % 2 ^ 32) (vector_long host_functions a) a
unfolding told
put-is entry vector a5 size a aligned =
    let long : length (puts (vectors host_functions) (blank 0x2000)) ≡ 0x2000 = vectors-length host_functions 0x2000 (lit≤ tt) (lit≤ tt) in
    told-is entry vector a5 size (vector_long host_functions a) a (puts (vectors host_functions) (blank 0x2000)) aligned (omega (arith, long)) (vectors-long host_functions a 0x2000 (lit≤ tt) (lit≤ tt) aligned)

-- the longs that are told, and those that may be any
stands-by : (t u v w : Bool) (entry vector a5 size rest x : ℕ) → x ≡ (if t then entry else (if u then vector else (if v then a5 else (if w then size else rest))))
    → Stands (if t then None else (if u then None else (if v then Some a5 else (if w then Some size else Some rest)))) x
stands-by true u v w entry vector a5 size rest x is = tt
stands-by false true v w entry vector a5 size rest x is = tt
stands-by false false true w entry vector a5 size rest x is = is
stands-by false false false true entry vector a5 size rest x is = is
stands-by false false false false entry vector a5 size rest x is = is

told-stands : (entry vector a5 size a x : ℕ) → x ≡ told_long entry vector a5 size (vector_long host_functions a) a → Stands (gate_long a5 size a) x
unfolding gate_long
told-stands entry vector a5 size a x is = stands-by (a == 0x1020) (a == 0x1024) (a == 0x1028) (a == 0x102C) entry vector a5 size (vector_long host_functions a) x is

by-stands : (t u v w : Bool) (entry vector a5 size rest x : ℕ) → (t ≡ true → x ≡ entry) → (u ≡ true → x ≡ vector) → Stands (if t then None else (if u then None else (if v then Some a5 else (if w then Some size else Some rest)))) x
    → x ≡ (if t then entry else (if u then vector else (if v then a5 else (if w then size else rest))))
by-stands true u v w entry vector a5 size rest x f g is = f refl
by-stands false true v w entry vector a5 size rest x f g is = g refl
by-stands false false true w entry vector a5 size rest x f g is = is
by-stands false false false true entry vector a5 size rest x f g is = is
by-stands false false false false entry vector a5 size rest x f g is = is

stands-told : (a5 size a : ℕ) (bytes : List ℕ) → Stands (gate_long a5 size a) (long_at a bytes) → long_at a bytes ≡ told_long (long_at 0x1020 bytes) (long_at 0x1024 bytes) a5 size (vector_long host_functions a) a
unfolding gate_long
stands-told a5 size a bytes is =
    by-stands (a == 0x1020) (a == 0x1024) (a == 0x1028) (a == 0x102C) (long_at 0x1020 bytes) (long_at 0x1024 bytes) a5 size (vector_long host_functions a) (long_at a bytes)
    (λ here. let place : a ≡ 0x1020 = grind (arith, nat_tests) in ap (λ b. long_at b bytes) place)
    (λ here. let place : a ≡ 0x1024 = grind (arith, nat_tests) in ap (λ b. long_at b bytes) place) is

-- a long of the page
page-long : (k : ℕ) (bytes : List ℕ) → k < 1024 → long_at (0x1000 + 4 * k) bytes ≡ long_at (4 * k) (part 0x1000 0x1000 bytes)
page-long k bytes few = sym (long_in_part 0x1000 0x1000 (4 * k) bytes (omega arith))

pub page_has_longs : PageHasLongs
unfolding page_bytes
page_has_longs entry vector a5 bytes small fits page = record {
  longs = λ k few.
      let a = 0x1000 + 4 * k in
      let put = puts (gate_longs entry vector a5 (length bytes)) (blank 0x2000) in
      let same : a5 % 2 ^ 32 ≡ a5 = omega (arith, small) in
      let long : length bytes % 2 ^ 32 ≡ length bytes = omega (arith, fits) in
      let is : long_at (0x1000 + 4 * k) bytes ≡ told_long (entry % 2 ^ 32) (vector % 2 ^ 32) a5 (length bytes) (vector_long host_functions (0x1000 + 4 * k)) (0x1000 + 4 * k)
      = page-long k bytes few ∙ ap (long_at (4 * k)) page ∙ sym (page-long k put few) ∙ put-is entry vector a5 (length bytes) a (omega arith)
      ∙ ap (λ n. told_long (entry % 2 ^ 32) (vector % 2 ^ 32) n (length bytes % 2 ^ 32) (vector_long host_functions a) a) same
      ∙ ap (λ n. told_long (entry % 2 ^ 32) (vector % 2 ^ 32) a5 n (vector_long host_functions a) a) long in
      told-stands (entry % 2 ^ 32) (vector % 2 ^ 32) a5 (length bytes) a (long_at a bytes) is;
}

pub page_by_bytes : PageByBytes
page_by_bytes a5 old new page same has = record {
  longs = λ k few.
      let long_is : long_at (0x1000 + 4 * k) new ≡ long_at (0x1000 + 4 * k) old = page-long k new few ∙ ap (long_at (4 * k)) page ∙ sym (page-long k old few) in
      subst (λ n. Stands (gate_long a5 n (0x1000 + 4 * k)) (long_at (0x1000 + 4 * k) new)) (sym same)
      (subst (Stands (gate_long a5 (length old) (0x1000 + 4 * k))) (sym long_is) (has.longs k few));
}

-- bytes put into bytes
put-small : (at : ℕ) (ys xs : List ℕ) → at + length ys ≤ length xs → AreBytes ys → AreBytes xs → AreBytes (put at ys xs)
put-small at ys xs within small more k =
    elim (cases_lt k at) [
      | inl before ↦ rw (get_or-put_outside at k ys xs 0 within (inl before)) (more k)
      | inr from ↦ elim (cases_lt k (at + length ys)) [
        | inl inside ↦ rw (get_or-put_inside at k ys xs 0 within from inside) (small (k - at))
        | inr behind ↦ rw (get_or-put_outside at k ys xs 0 within (inr behind)) (more k)
      ]
    ]

long-small : (v : ℕ) → AreBytes (big_bytes 4 v)
long-small v zero = omega arith
long-small v (suc zero) = omega arith
long-small v (suc (suc zero)) = omega arith
long-small v (suc (suc (suc zero))) = omega arith
long-small v (suc (suc (suc (suc k)))) = lit< tt

blank-small : (n : ℕ) → AreBytes (blank n)
unfolding blank
blank-small n k = grind (arith, places)

vectors-small : (n len : ℕ) → n ≤ host_functions → 0x2000 ≤ len → AreBytes (puts (vectors n) (blank len))
unfolding vectors
vectors-small zero len few most = blank-small len
vectors-small (suc n) len few most =
    let xs = puts (vectors n) (blank len) in
    let ys = put (host_vector_at n) (big_bytes 4 (host_code_at n)) xs in
    let before : length (puts (vectors n) (blank len)) ≡ len = vectors-length n len (omega arith) most in
    let one : length (put (host_vector_at n) (big_bytes 4 (host_code_at n)) xs) ≡ length xs = length-put (host_vector_at n) (big_bytes 4 (host_code_at n)) xs (omega (arith, before)) in
    put-small (host_vector_at n + 4) (big_bytes 4 0) ys (omega (arith, before, one)) (long-small 0)
    (put-small (host_vector_at n) (big_bytes 4 (host_code_at n)) xs (omega (arith, before)) (long-small (host_code_at n)) (vectors-small n len (omega arith) most))

told-small : (entry vector a5 size : ℕ) (xs : List ℕ) → 0x2000 ≤ length xs → AreBytes xs
    → AreBytes (put 0x102C (big_bytes 4 size) (put 0x1028 (big_bytes 4 a5) (put 0x1024 (big_bytes 4 vector) (put 0x1020 (big_bytes 4 entry) xs))))
    × (length (put 0x102C (big_bytes 4 size) (put 0x1028 (big_bytes 4 a5) (put 0x1024 (big_bytes 4 vector) (put 0x1020 (big_bytes 4 entry) xs)))) ≡ length xs)
told-small entry vector a5 size xs most small =
    let first = put 0x1020 (big_bytes 4 entry) xs in
    let second = put 0x1024 (big_bytes 4 vector) first in
    let third = put 0x1028 (big_bytes 4 a5) second in
    let one : length (put 0x1020 (big_bytes 4 entry) xs) ≡ length xs = length-put 0x1020 (big_bytes 4 entry) xs (omega (arith, most)) in
    let two : length (put 0x1024 (big_bytes 4 vector) first) ≡ length first = length-put 0x1024 (big_bytes 4 vector) first (omega (arith, most, one)) in
    let three : length (put 0x1028 (big_bytes 4 a5) second) ≡ length second = length-put 0x1028 (big_bytes 4 a5) second (omega (arith, most, one, two)) in
    let below : 0x1020 + 4 ≤ length xs = omega (arith, most) in
    let below_first : 0x1024 + 4 ≤ length first = omega (arith, most, one) in
    let below_second : 0x1028 + 4 ≤ length second = omega (arith, most, one, two) in
    let below_third : 0x102C + 4 ≤ length third = omega (arith, most, one, two, three) in (
      put-small 0x102C (big_bytes 4 size) third below_third (long-small size) (put-small 0x1028 (big_bytes 4 a5) second below_second (long-small a5)
          (put-small 0x1024 (big_bytes 4 vector) first below_first (long-small vector) (put-small 0x1020 (big_bytes 4 entry) xs below (long-small entry) small))),
      length-put 0x102C (big_bytes 4 size) third below_third ∙ three ∙ two ∙ one,
    )

put-bytes : (entry vector a5 size : ℕ) → AreBytes (puts (gate_longs entry vector a5 size) (blank 0x2000)) × (length (puts (gate_longs entry vector a5 size) (blank 0x2000)) ≡ 0x2000)
unfolding told
put-bytes entry vector a5 size =
    let long : length (puts (vectors host_functions) (blank 0x2000)) ≡ 0x2000 = vectors-length host_functions 0x2000 (lit≤ tt) (lit≤ tt) in
    let all = told-small entry vector a5 size (puts (vectors host_functions) (blank 0x2000)) (omega (arith, long)) (vectors-small host_functions 0x2000 (lit≤ tt) (lit≤ tt)) in
    (all.0, all.1 ∙ long)

-- a long of bytes
long-fits : (a : ℕ) (bytes : List ℕ) → AreBytes bytes → long_at a bytes < 2 ^ 32
long-fits a bytes are =
    let one : get_or (longs_at 1 a bytes) 0 0 ≡ long_at (a + 4 * 0) bytes = long_of_longs 1 a bytes 0 (lit< tt) in
    let fits : get_or (longs_at 1 a bytes) 0 0 < 2 ^ 32 = (longs_fit 1 a bytes are).each 0 in
    let place : a + 4 * 0 ≡ a = omega arith in
    let same : get_or (longs_at 1 a bytes) 0 0 ≡ long_at a bytes = one ∙ ap (λ b. long_at b bytes) place in
    omega (arith, fits, same)

-- parts with the same longs
same-longs : (n a : ℕ) (xs ys : List ℕ) → AreBytes xs → AreBytes ys → a + 4 * n ≤ length xs → a + 4 * n ≤ length ys → ((k : ℕ) → k < n → long_at (a + 4 * k) xs ≡ long_at (a + 4 * k) ys) → part a (4 * n) xs ≡ part a (4 * n) ys
same-longs n a xs ys first second within inside each =
    let count : length (longs_at n a xs) ≡ n = length_of_longs n a xs in
    let same : longs_at n a xs ≡ longs_at n a ys = ext_get_or 0 _ _ (length_of_longs n a xs ∙ sym (length_of_longs n a ys)) (λ k less.
    let few : k < n = omega (arith, less, count) in
    long_of_longs n a xs k few ∙ each k few ∙ sym (long_of_longs n a ys k few)) in
    sym (longs_again n a xs first within) ∙ ap bytes_of_longs same ∙ longs_again n a ys second inside

pub longs_are_page : LongsArePage
unfolding page_bytes
longs_are_page a5 bytes are most small fits has =
    let entry = long_at 0x1020 bytes in
    let vector = long_at 0x1024 bytes in
    let put = puts (gate_longs entry vector a5 (length bytes)) (blank 0x2000) in
    let all = put-bytes entry vector a5 (length bytes) in
    let count : length (puts (gate_longs (long_at 0x1020 bytes) (long_at 0x1024 bytes) a5 (length bytes)) (blank 0x2000)) ≡ 0x2000 = all.1 in
    let one : long_at 0x1020 bytes % 2 ^ 32 ≡ long_at 0x1020 bytes = (let f : long_at 0x1020 bytes < 2 ^ 32 = long-fits 0x1020 bytes are in omega (arith, f)) in
    let two : long_at 0x1024 bytes % 2 ^ 32 ≡ long_at 0x1024 bytes = (let f : long_at 0x1024 bytes < 2 ^ 32 = long-fits 0x1024 bytes are in omega (arith, f)) in
    let three : a5 % 2 ^ 32 ≡ a5 = omega (arith, small) in
    let four : length bytes % 2 ^ 32 ≡ length bytes = omega (arith, fits) in
    same-longs 1024 0x1000 bytes put are all.0 (omega (arith, most)) (omega (arith, count)) (λ k few.
    let a = 0x1000 + 4 * k in
    stands-told a5 (length bytes) a bytes (has.longs k few)
    ∙ sym (put-is entry vector a5 (length bytes) a (omega arith)
    ∙ ap (λ n. told_long n (vector % 2 ^ 32) (a5 % 2 ^ 32) (length bytes % 2 ^ 32) (vector_long host_functions a) a) one
    ∙ ap (λ n. told_long entry n (a5 % 2 ^ 32) (length bytes % 2 ^ 32) (vector_long host_functions a) a) two
    ∙ ap (λ n. told_long entry vector n (length bytes % 2 ^ 32) (vector_long host_functions a) a) three
    ∙ ap (λ n. told_long entry vector a5 n (vector_long host_functions a) a) four))
