-- Laws of numbers in bytes.
use Rattle.std.proofs.Common.{◌≡◌, ℕ, zero, suc, ◌+◌, ◌*◌, ◌/◌, ◌%◌, ◌^◌, ◌<◌, ◌≤◌, true, List, [], ◌∷◌, ◌++◌, length, drop, get_or, arith, ap, sym, ◌∙◌, refl}
use Rattle.std.proofs.lemmas.Bool.Decides.{nat_tests}
use Rattle.std.proofs.lemmas.List.{same_lists, drop-drop, take-append-drop, ext_get_or, get_or-append-add, get_or_append_left, length-append, places}
use Rattle.std.proofs.lemmas.List.Concat.{flat_map-append}
use Rattle.byteorder.specs.Endian.{IsRead, big_from, big_number, big_bytes}
use Rattle.byteorder.specs.Numbers.{big_from-lt, big_from-bytes}
use Rattle.mix_bits.specs.Sizes.{bytes_of}
use Rattle.mix_bits.specs.declared.size.Size.TheVariants.{Four}
use Rattle.big_memory.specs.Lists.{part, put}
use Rattle.big_memory.specs.Memory.{in_memory}
use Rattle.big_memory.specs.Numbers.{AreBytes, AreLongs, bytes_of_longs, long_at, longs_at}
use Rattle.big_memory.specs.laws.NumberLaws.{BytesJoin, FourLongs, LengthOfBytes, LengthOfLongs, LoadsLong, LoadsNumber, LongFits, LongInPart, LongOfLongs, LongOfPart, LongReadsBack, LongsAgain, LongsFit, LongsOfPart, LongsSplit, NumberInPart, SameNumber, WritesJoin}
use Rattle.big_memory.proofs.Lists.{drop-put, put-append}

-- numbers in lists that are the same so far
pub same_from : SameNumber
same_from zero i xs ys same = refl
same_from (suc n) i xs ys same =
    let head : get_or xs i 0 ≡ get_or ys i 0 = same i (omega arith) in
    let rest : big_from (suc i) n xs ≡ big_from (suc i) n ys = same_from n (suc i) xs ys (λ j below. same j (omega arith)) in
    ap (λ h. h * 256 ^ n + big_from (suc i) n xs) head ∙ ap (λ t. get_or ys i 0 * 256 ^ n + t) rest

-- a byte of a part
byte-inside : (a count at i : ℕ) (bytes : List ℕ) → at + i < count → get_or (drop at (part a count bytes)) i 0 ≡ get_or (drop (a + at) bytes) i 0
byte-inside a count at i bytes within = grind (arith, places)

pub number_in_part : NumberInPart
number_in_part a count at n bytes within =
    same_from n 0 (drop at (part a count bytes)) (drop (a + at) bytes) (λ j below. byte-inside a count at j bytes (omega arith))

pub long_in_part : LongInPart
unfolding long_at
long_in_part a count at bytes within = number_in_part a count at 4 bytes within

pub loads_number : LoadsNumber
loads_number m a s within =
    let inside : in_memory m a (bytes_of s) ≡ true = grind (arith, nat_tests) in rw inside refl

pub loads_long : LoadsLong
unfolding long_at
loads_long m a within = loads_number m a Four within

pub long_reads_back : LongReadsBack
unfolding long_at
long_reads_back a v bytes within =
    ap (big_number 4) (drop-put a (big_bytes 4 v) bytes (omega arith)) ∙ big_from-bytes 4 v (drop (a + 4) bytes)

-- the longs from an address on
pub length_of_longs : LengthOfLongs
unfolding longs_at
length_of_longs zero a bytes = refl
length_of_longs (suc n) a bytes = ap suc (length_of_longs n (a + 4) bytes)

pub long_of_longs : LongOfLongs
unfolding longs_at
long_of_longs zero a bytes k within = absurd (omega arith)
long_of_longs (suc n) a bytes zero within = ap (λ b. long_at b bytes) (let e : a ≡ a + 4 * 0 = omega arith in e)
long_of_longs (suc n) a bytes (suc k) within =
    let e : a + 4 + 4 * k ≡ a + 4 * suc k = omega arith in long_of_longs n (a + 4) bytes k (omega arith) ∙ ap (λ b. long_at b bytes) e

-- the bytes of longs
pub length_of_bytes : LengthOfBytes
unfolding bytes_of_longs
length_of_bytes [] = refl
length_of_bytes (x ∷ xs) = let rest : length (bytes_of_longs xs) ≡ 4 * length xs = length_of_bytes xs in omega arith

pub bytes_join : BytesJoin
unfolding bytes_of_longs
bytes_join xs ys = flat_map-append (big_bytes 4) xs ys

-- a long of a list that begins with the bytes of longs
front : (xs tail ys : List ℕ) (k : ℕ) → ys ≡ bytes_of_longs xs ++ tail → k < length xs → get_or xs k 0 < 2 ^ 32 → big_number 4 (drop (4 * k) ys) ≡ get_or xs k 0
unfolding bytes_of_longs
front [] tail ys k e within fits = absurd (omega arith)
front (x ∷ xs) tail ys zero e within fits = rw e (omega (arith, fits))
front (x ∷ xs) tail ys (suc k) e within fits =
    let place : 4 * suc k ≡ 4 + 4 * k = omega arith in
    let rest : drop 4 ys ≡ bytes_of_longs xs ++ tail = ap (drop 4) e in
    let there : drop (4 * suc k) ys ≡ drop (4 * k) (drop 4 ys) = ap (λ n. drop n ys) place ∙ sym (drop-drop (4 * k) 4 ys) in
    ap (big_number 4) there ∙ front xs tail (drop 4 ys) k rest (omega arith) fits

pub long_of_part : LongOfPart
unfolding long_at
long_of_part a n xs bytes k piece within fits =
    ap (big_number 4) (sym (drop-drop (4 * k) a bytes))
    ∙ front xs (drop n (drop a bytes)) (drop a bytes) k (sym (take-append-drop n (drop a bytes)) ∙ ap (λ front. front ++ drop n (drop a bytes)) piece) within fits

pub longs_of_part : LongsOfPart
longs_of_part a n b count xs ys zs bytes piece place ok =
    ext_get_or 0 _ _ (length_of_longs count b bytes ∙ sym ok.count) (λ k within.
    let small : k < count = omega (arith, within, length_of_longs count b bytes) in
    let inside : k < length ys = omega (arith, small, ok.count) in
    let here : get_or (xs ++ (ys ++ zs)) (length xs + k) 0 ≡ get_or ys k 0 = get_or-append-add xs (ys ++ zs) k 0 ∙ get_or_append_left ys zs 0 k inside in
    let address : b + 4 * k ≡ a + 4 * (length xs + k) = omega arith in
    long_of_longs count b bytes k small ∙ ap (λ c. long_at c bytes) address
    ∙ long_of_part a n (xs ++ (ys ++ zs)) bytes (length xs + k) piece (omega (arith, length-append xs (ys ++ zs), length-append ys zs, inside)) (rw here (ok.each k))
    ∙ here)

-- longs that are written behind others
put-longs_behind : (at to : ℕ) (xs ys bytes : List ℕ) → to ≡ at + 4 * length xs → to + 4 * length ys ≤ length bytes → put to (bytes_of_longs ys) (put at (bytes_of_longs xs) bytes) ≡ put at (bytes_of_longs (xs ++ ys)) bytes
put-longs_behind at to xs ys bytes place within =
    let behind : to ≡ at + length (bytes_of_longs xs) = omega (arith, length_of_bytes xs) in
    ap (λ b. put b (bytes_of_longs ys) (put at (bytes_of_longs xs) bytes)) behind
    ∙ sym (put-append at (bytes_of_longs xs) (bytes_of_longs ys) bytes (omega (arith, length_of_bytes xs, length_of_bytes ys)))
    ∙ ap (λ zs. put at zs bytes) (sym (bytes_join xs ys))

pub writes_join : WritesJoin
writes_join at to xs ys m place within = ap (λ bytes. record m { bytes = bytes }) (put-longs_behind at to xs ys m.bytes place within)

-- longs one after the other
pub cons-long : (n a b : ℕ) (bytes : List ℕ) → b ≡ a + 4 → longs_at (suc n) a bytes ≡ long_at a bytes ∷ longs_at n b bytes
unfolding longs_at
cons-long n a b bytes next = ap (λ c. long_at a bytes ∷ longs_at n c bytes) (sym next)

pub no-longs : (a : ℕ) (bytes : List ℕ) → longs_at 0 a bytes ≡ []
unfolding longs_at
no-longs a bytes = refl

pub longs-split : LongsSplit
unfolding longs_at
longs-split zero n a b bytes place =
    let count : zero + n ≡ n = omega arith in
    let same : a ≡ b = omega arith in
    ap (λ k. longs_at k a bytes) count ∙ ap (λ c. longs_at n c bytes) same
longs-split (suc m) n a b bytes place =
    let count : suc m + n ≡ suc (m + n) = omega arith in
    ap (λ k. longs_at k a bytes) count ∙ ap (λ xs. long_at a bytes ∷ xs) (longs-split m n (a + 4) b bytes (omega arith))

pub four-longs : FourLongs
four-longs a b c d bytes b_is c_is d_is =
    cons-long 3 a b bytes b_is
    ∙ ap (λ xs. long_at a bytes ∷ xs) (cons-long 2 b c bytes (omega arith)
    ∙ ap (λ xs. long_at b bytes ∷ xs) (cons-long 1 c d bytes (omega arith)
    ∙ ap (λ xs. long_at c bytes ∷ xs) (cons-long 0 d (d + 4) bytes refl ∙ ap (λ xs. long_at d bytes ∷ xs) (no-longs (d + 4) bytes))))

-- longs that were read out of a part
pub longs-read : (a n : ℕ) (bytes span xs : List ℕ) → n ≡ 4 * length xs → span ≡ part a n bytes → IsRead big_number 4 span xs → xs ≡ longs_at (length xs) a bytes
unfolding long_at
longs-read a n bytes span xs size piece read =
    ext_get_or 0 _ _ (sym (length_of_longs (length xs) a bytes)) (λ k within.
    let inside : 4 * k + 4 ≤ n = omega arith in
    read k within ∙ ap (λ ys. big_number 4 (drop (4 * k) ys)) piece ∙ number_in_part a n (4 * k) 4 bytes inside
    ∙ sym (long_of_longs (length xs) a bytes k within))

-- bytes that fit
dropped : (a : ℕ) (bytes : List ℕ) → AreBytes bytes → AreBytes (drop a bytes)
dropped a bytes fit k = let here : get_or (drop a bytes) k 0 ≡ get_or bytes (a + k) 0 = grind (arith, places) in rw here (fit (a + k))

pub long_fits : LongFits
unfolding long_at
long_fits a bytes fit = big_from-lt 0 4 (drop a bytes) (dropped a bytes fit)

pub longs_fit : LongsFit
unfolding longs_at
longs_fit zero a bytes fit = record { count = refl; each = λ k. omega arith }
longs_fit (suc n) a bytes fit =
    let rest = longs_fit n (a + 4) bytes fit in record { count = ap suc rest.count; each = each rest }
  where
    each : AreLongs n (longs_at n (a + 4) bytes) → (k : ℕ) → get_or (long_at a bytes ∷ longs_at n (a + 4) bytes) k 0 < 2 ^ 32
    each rest zero = long_fits a bytes fit
    each rest (suc k) = rest.each k

-- four bytes are those of their number
four : (w x y z : ℕ) → w < 256 → x < 256 → y < 256 → z < 256 → big_bytes 4 (w * 256 ^ 3 + (x * 256 ^ 2 + (y * 256 ^ 1 + (z * 256 ^ 0 + 0)))) ≡ w ∷ x ∷ y ∷ z ∷ []
four w x y z wf xf yf zf =
    let n = w * 256 ^ 3 + (x * 256 ^ 2 + (y * 256 ^ 1 + (z * 256 ^ 0 + 0))) in
    let first : n / 256 ^ 3 % 256 ≡ w = omega arith in
    let second : n / 256 ^ 2 % 256 ≡ x = omega arith in
    let third : n / 256 ^ 1 % 256 ≡ y = omega arith in
    let fourth : n % 256 ≡ z = omega arith in
    λ i. first i ∷ second i ∷ third i ∷ fourth i ∷ []

long_again : (a : ℕ) (bytes : List ℕ) → AreBytes bytes → a + 4 ≤ length bytes → big_bytes 4 (long_at a bytes) ≡ part a 4 bytes
unfolding long_at
long_again a bytes fit within =
    let fits = dropped a bytes fit in
    four _ _ _ _ (fits 0) (fits 1) (fits 2) (fits 3) ∙ same_lists _ _ (grind (arith, places)) (λ k d w. grind (arith, places))

part-joins : (a n : ℕ) (bytes : List ℕ) → a + (4 + n) ≤ length bytes → part a 4 bytes ++ part (a + 4) n bytes ≡ part a (4 + n) bytes
part-joins a n bytes within = same_lists _ _ (grind (arith, places)) (λ k d w. grind (arith, places))

pub longs_again : LongsAgain
unfolding longs_at bytes_of_longs
longs_again zero a bytes fit within = refl
longs_again (suc n) a bytes fit within =
    let more : 4 * suc n ≡ 4 + 4 * n = omega arith in
    ap (λ xs. xs ++ bytes_of_longs (longs_at n (a + 4) bytes)) (long_again a bytes fit (omega arith))
    ∙ ap (λ xs. part a 4 bytes ++ xs) (longs_again n (a + 4) bytes fit (omega arith))
    ∙ part-joins a (4 * n) bytes (omega arith) ∙ ap (λ k. part a k bytes) (sym more)
