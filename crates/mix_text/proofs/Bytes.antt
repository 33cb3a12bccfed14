-- The bytes of memory are those of its words and longs.
use Rattle.std.proofs.Common.{◌≡◌, ℕ, zero, suc, ◌+◌, ◌*◌, ◌/◌, ◌%◌, ◌^◌, ◌<◌, ◌≤◌, List, [], ◌∷◌, ◌++◌, length, take, drop, Bool, true, false, Result, Ok, Err, if◌then◌else◌, arith, refl, sym, ap, subst, ◌∙◌, drop-drop, take-add, get_or-drop}
use Rattle.std.proofs.lemmas.Bool.Decides.{nat_tests}
use Rattle.std.proofs.lemmas.List.{length-drop}
use Rattle.byteorder.specs.Endian.{big_number}
use Rattle.mix_bits.specs.Addresses.{onward}
use Rattle.mix_bits.specs.declared.size.Size.TheVariants.{Two, Four}
use Rattle.big_memory.specs.declared.refusals.Access.{Access}
use Rattle.big_memory.specs.declared.refusals.Access.TheVariants.{Outside}
use Rattle.big_memory.specs.Lists.{part}
use Rattle.big_memory.specs.Memory.{IsRam, Memory, in_memory, loaded}
use Rattle.big_memory.specs.Numbers.{AreBytes, number_at}
use Rattle.m68_ea.specs.Words.{word_and, words_from}
use Rattle.asm_m68.specs.Assembly.{AreWords}
use Rattle.mix_text.specs.Assembling.{long_bytes, word_bytes}

pub parts_join : (at n k : ℕ) (bytes : List ℕ) → part at (n + k) bytes ≡ part at n bytes ++ part (at + n) k bytes
parts_join at n k bytes = take-add n k (drop at bytes) ∙ ap (λ xs. take n (drop at bytes) ++ take k xs) (drop-drop n at bytes)

-- Numbers and their bytes.

pair_back : (xs : List ℕ) → AreBytes xs → 2 ≤ length xs → word_bytes (big_number 2 xs ∷ []) ≡ take 2 xs
pair_back [] are long = absurd (omega (arith, long))
pair_back (a ∷ []) are long = absurd (omega (arith, long))
pair_back (a ∷ b ∷ xs) are long =
    let high : (a * 256 + (b * 1 + 0)) / 256 ≡ a = omega (arith, are 1) in
    let low : (a * 256 + (b * 1 + 0)) % 256 ≡ b = omega (arith, are 1) in
    ap (λ x. x ∷ (a * 256 + (b * 1 + 0)) % 256 ∷ []) high ∙ ap (λ y. a ∷ y ∷ []) low

pair_below : (xs : List ℕ) → AreBytes xs → big_number 2 xs < 65536
pair_below xs are = omega (arith, are 0, are 1)

four_back : (xs : List ℕ) → AreBytes xs → 4 ≤ length xs → long_bytes (big_number 4 xs) ≡ take 4 xs
four_back [] are long = absurd (omega (arith, long))
four_back (a ∷ []) are long = absurd (omega (arith, long))
four_back (a ∷ b ∷ []) are long = absurd (omega (arith, long))
four_back (a ∷ b ∷ c ∷ []) are long = absurd (omega (arith, long))
four_back (a ∷ b ∷ c ∷ d ∷ xs) are long =
    let v : ℕ = big_number 4 (a ∷ b ∷ c ∷ d ∷ xs) in
    let first : v / 65536 / 256 ≡ a = omega (arith, are 1, are 2, are 3) in
    let second : v / 65536 % 256 ≡ b = omega (arith, are 1, are 2, are 3) in
    let third : v % 65536 / 256 ≡ c = omega (arith, are 1, are 2, are 3) in
    let fourth : v % 65536 % 256 ≡ d = omega (arith, are 1, are 2, are 3) in
    cc

four_below : (xs : List ℕ) → AreBytes xs → big_number 4 xs < 4294967296
four_below xs are = omega (arith, are 0, are 1, are 2, are 3)

-- What a load says.

behind_bytes : (at : ℕ) (bytes : List ℕ) → AreBytes bytes → AreBytes (drop at bytes)
behind_bytes at bytes are k = subst (λ v. v < 256) (sym (get_or-drop at bytes k 0)) (are (at + k))

behind_long : (at n : ℕ) (bytes : List ℕ) → 0 < n → at + n ≤ length bytes → n ≤ length (drop at bytes)
behind_long at n bytes some fits = omega (arith, length-drop at bytes, fits)

-- a number that lies in memory
pub record Lies (m : Memory) (at n value : ℕ) : Type 0 where
  pub within : at + n ≤ length m.bytes
  pub is : value ≡ number_at at n m.bytes

lies_in : (b : Bool) (m : Memory) (at n value : ℕ) → (b ≡ true → at + n ≤ length m.bytes) → (if b then Ok (number_at at n m.bytes) else Err (Outside at)) ≡ Ok value → Lies m at n value
lies_in true m at n value inside h = record { within = inside refl; is = cc }
lies_in false m at n value inside h = cc

word_lies : (m : Memory) (at word : ℕ) → loaded m at Two ≡ Ok word → Lies m at 2 word
word_lies m at word h = lies_in (in_memory m at 2) m at 2 word (λ is. grind (arith, nat_tests)) h

long_lies : (m : Memory) (at long : ℕ) → loaded m at Four ≡ Ok long → Lies m at 4 long
long_lies m at long h = lies_in (in_memory m at 4) m at 4 long (λ is. grind (arith, nat_tests)) h

-- a long is the number of its four bytes
pub record IsLong (m : Memory) (at long : ℕ) : Type 0 where
  pub within : at + 4 ≤ length m.bytes
  pub below : long < 2 ^ 32
  pub bytes : long_bytes long ≡ part at 4 m.bytes

pub is_long : (m : Memory) (at long : ℕ) → AreBytes m.bytes → loaded m at Four ≡ Ok long → IsLong m at long
is_long m at long are h =
    let lies : Lies m at 4 long = long_lies m at long h in
    let behind : AreBytes (drop at m.bytes) = behind_bytes at m.bytes are in
    record {
      within = lies.within;
      below = subst (λ v. v < 4294967296) (sym lies.is) (four_below (drop at m.bytes) behind);
      bytes = ap long_bytes lies.is ∙ four_back (drop at m.bytes) behind (behind_long at 4 m.bytes (omega arith) lies.within);
    }

-- so many of the words from an address on are the bytes from there on
pub record AreBytesOf (m : Memory) (at k : ℕ) (ws : List ℕ) : Type 0 where
  pub within : 0 < k → at + 2 * k ≤ length m.bytes
  pub bytes : word_bytes (take k ws) ≡ part at (2 * k) m.bytes

no_words : (m : Memory) (at : ℕ) (ws : List ℕ) → AreBytesOf m at 0 ws
no_words m at ws = record { within = λ some. absurd (omega (arith, some)); bytes = refl }

one_more : (m : Memory) (at word k : ℕ) (ws : List ℕ) → AreBytes m.bytes → Lies m at 2 word → AreBytesOf m (at + 2) k ws → AreBytesOf m at (suc k) (word ∷ ws)
one_more m at word k ws are lies rest =
    let behind : AreBytes (drop at m.bytes) = behind_bytes at m.bytes are in
    let one : word_bytes (word ∷ []) ≡ part at 2 m.bytes = ap (λ v. word_bytes (v ∷ [])) lies.is ∙ pair_back (drop at m.bytes) behind (behind_long at 2 m.bytes (omega arith) lies.within) in
    let double : 2 + 2 * k ≡ 2 * suc k = omega arith in
    record {
      within = λ some. upto k lies.within rest.within;
      bytes = ap (λ xs. xs ++ word_bytes (take k ws)) one ∙ ap (λ xs. part at 2 m.bytes ++ xs) rest.bytes ∙ sym (parts_join at 2 (2 * k) m.bytes) ∙ ap (λ n. part at n m.bytes) double;
    }
  where
    upto : (j : ℕ) → at + 2 ≤ length m.bytes → (0 < j → at + 2 + 2 * j ≤ length m.bytes) → at + 2 * suc j ≤ length m.bytes
    upto zero here later = omega (arith, here)
    upto (suc j) here later = omega (arith, later (omega arith))

by_load : (n k : ℕ) (m : Memory) (at : ℕ) (r : Result ℕ Access) → IsRam m → AreBytes m.bytes → loaded m at Two ≡ r → suc k ≤ length (word_and r (words_from n m (onward at 2)))
    → (k ≤ length (words_from n m (onward at 2)) → AreBytesOf m (onward at 2) k (words_from n m (onward at 2))) → AreBytesOf m at (suc k) (word_and r (words_from n m (onward at 2)))
by_load n k m at (Ok word) ram are is enough later =
    let lies : Lies m at 2 word = word_lies m at word is in
    let next : onward at 2 ≡ at + 2 = omega (arith, lies.within, ram.most) in
    one_more m at word k (words_from n m (onward at 2)) are lies (subst (λ a. AreBytesOf m a k (words_from n m (onward at 2))) next (later (omega (arith, enough))))
by_load n k m at (Err e) ram are is enough later = absurd (omega (arith, enough))

pub words_back : (n k : ℕ) (m : Memory) (at : ℕ) → IsRam m → AreBytes m.bytes → k ≤ length (words_from n m at) → AreBytesOf m at k (words_from n m at)
unfolding words_from
words_back n zero m at ram are enough = no_words m at (words_from n m at)
words_back zero (suc k) m at ram are enough = absurd (omega (arith, enough))
words_back (suc n) (suc k) m at ram are enough = by_load n k m at (loaded m at Two) ram are refl enough (λ more. words_back n k m (onward at 2) ram are more)

words_with : (r : Result ℕ Access) (ws : List ℕ) → ((word : ℕ) → r ≡ Ok word → word < 65536) → AreWords ws → AreWords (word_and r ws)
words_with (Ok word) ws below rest = (below word refl, rest)
words_with (Err e) ws below rest = tt

pub words_are : (n : ℕ) (m : Memory) (at : ℕ) → AreBytes m.bytes → AreWords (words_from n m at)
unfolding words_from
words_are zero m at are = tt
words_are (suc n) m at are =
    words_with (loaded m at Two) (words_from n m (onward at 2))
    (λ word h. subst (λ v. v < 65536) (sym (word_lies m at word h).is) (pair_below (drop at m.bytes) (behind_bytes at m.bytes are)))
    (words_are n m (onward at 2) are)
