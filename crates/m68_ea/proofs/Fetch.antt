-- A word of an instruction is the word in memory at its address: memory ends far below the last address.
use Rattle.std.proofs.Common.{◌≡◌, ℕ, zero, suc, ◌+◌, ◌-◌, ◌*◌, ◌<◌, ◌≤◌, inl, inr, true, List, [], ◌∷◌, length, get_or, slice_index, drop, take, arith, add-zero, sym, ap, subst, ◌∙◌, refl, Result, Ok, Err}
use Rattle.std.proofs.Math.Seq.{drop-nil}
use Rattle.std.proofs.lemmas.Grind.{common_steps}
use Rattle.std.proofs.lemmas.List.{drop-take, take-take}
use Rattle.std.proofs.lemmas.Bool.{cases_lt}
use Rattle.std.proofs.lemmas.Bool.Decides.{nat_tests}
use Rattle.byteorder.specs.Endian.{big_number}
use Rattle.mix_bits.specs.declared.size.Size.TheVariants.{Two}
use Rattle.big_memory.specs.declared.refusals.Access.{Access}
use Rattle.big_memory.specs.declared.refusals.Access.TheVariants.{Outside}
use Rattle.big_memory.specs.laws.Laws.{LoadsPart}
use Rattle.big_memory.specs.Lists.{part}
use Rattle.big_memory.specs.Memory.{Memory, in_memory, loaded}
use Rattle.m68_ea.specs.Words.{words_at, words_from, word_and}
use Rattle.mix_bits.specs.Addresses.{onward}

loaded-in : (m : Memory) (a : ℕ) → a + 2 ≤ length m.bytes → loaded m a Two ≡ Ok (big_number 2 (drop a m.bytes))
loaded-in m a h = grind (arith, nat_tests)

loaded-out : (m : Memory) (a : ℕ) → length m.bytes < a + 2 → loaded m a Two ≡ Err (Outside a)
loaded-out m a h = grind (arith, nat_tests)

-- a word that doesn't lie in memory counts as 0
abbrev or_zero : Result ℕ Access → ℕ
or_zero (Ok word) = word
or_zero (Err e) = 0

first-word : (r : Result ℕ Access) (ws : List ℕ) → get_or (word_and r ws) 0 0 ≡ or_zero r
first-word (Ok w) ws = refl
first-word (Err e) ws = refl

onward-two : (a : ℕ) → a + 2 ≤ 16777216 → onward a 2 ≡ a + 2
onward-two a h = omega arith

word_in : (n k a : ℕ) (m : Memory) → length m.bytes ≤ 16777216 → k < n → get_or (words_from n m a) k 0 ≡ or_zero (loaded m (a + 2 * k) Two)
unfolding words_from
word_in zero k a m small below = absurd (omega arith)
word_in (suc n) zero a m small below = rw (add-zero a) (first-word (loaded m a Two) (words_from n m (onward a 2)))
word_in (suc n) (suc k) a m small below =
    elim (cases_lt (length m.bytes) (a + 2)) [
      | inr within ↦
          let next : a + 2 + 2 * k ≡ a + 2 * suc k = omega arith in
          rw (loaded-in m a within, onward-two a (omega arith), ← next) (word_in n k (a + 2) m small (omega arith))
      | inl past ↦ rw (loaded-out m a past, loaded-out m (a + 2 * suc k) (omega arith)) refl
    ]

-- no word lies behind the end of memory
pub word_past : (at pc : ℕ) (m : Memory) → length m.bytes ≤ 16777216 → at < 5 → length m.bytes < pc + (2 * at + 2) → 0 ≡ get_or (words_from 5 m pc) at 0
word_past at pc m small below past = sym (word_in 5 at pc m small below ∙ ap or_zero (loaded-out m (pc + 2 * at) (omega arith)))

drop-both : (a b : ℕ) (xs : List ℕ) → drop a (drop b xs) ≡ drop (b + a) xs
drop-both a zero xs = let same : zero + a ≡ a = omega arith in rw same refl
drop-both a (suc b) [] = rw (drop-nil a, drop-nil (suc b + a)) refl
drop-both a (suc b) (x ∷ xs) = let same : suc b + a ≡ suc (b + a) = omega arith in rw same (drop-both a b xs)

-- the last of the bytes up to the end of a word are that word
pub word_of_bytes : (m : Memory) (pc at : ℕ) (bytes : List ℕ) → LoadsPart → length m.bytes ≤ 16777216 → at < 5 → in_memory m pc (2 * at + 2) ≡ true → bytes ≡ part pc (2 * at + 2) m.bytes
    → big_number 2 (drop (length bytes - 2) bytes) ≡ get_or (words_from 5 m pc) at 0
word_of_bytes m pc at bytes loads small below within is =
    let inside : pc + (2 * at + 2) ≤ length m.bytes = grind (arith, nat_tests, within) in
    let long : length bytes ≡ 2 * at + 2 = rw is (grind (arith, common_steps)) in
    let from : length bytes - 2 ≡ 2 * at = omega arith in
    let piece : drop (length bytes - 2) bytes ≡ part (pc + 2 * at) 2 m.bytes =
    rw (from, is) (drop-take (2 * at) 2 (drop pc m.bytes) ∙ ap (take 2) (drop-both (2 * at) pc m.bytes)) in
    let there : in_memory m (pc + 2 * at) 2 ≡ true = grind (arith, nat_tests) in
    rw piece (sym (word_in 5 at pc m small below ∙ ap or_zero (loads m (pc + 2 * at) Two there)))

-- the last four of the bytes up to the end of two words are those words
pub long_of_bytes : (m : Memory) (pc at : ℕ) (bytes : List ℕ) → LoadsPart → length m.bytes ≤ 16777216 → at < 4 → in_memory m pc (2 * at + 4) ≡ true → bytes ≡ part pc (2 * at + 4) m.bytes
    → (high low : ℕ) → high ≡ big_number 2 (drop (length (take (length bytes - 2) bytes) - 2) (take (length bytes - 2) bytes)) → low ≡ big_number 2 (drop (length bytes - 2) bytes)
    → high * 65536 + low ≡ get_or (words_from 5 m pc) at 0 * 65536 + get_or (words_from 5 m pc) (at + 1) 0
long_of_bytes m pc at bytes loads small below within is high low first second =
    let inside : pc + (2 * at + 4) ≤ length m.bytes = grind (arith, nat_tests, within) in
    let long : length bytes ≡ 2 * at + 4 = rw is (grind (arith, common_steps)) in
    let onward : 2 * at + 4 ≡ 2 * (at + 1) + 2 = omega arith in
    let last : low ≡ get_or (words_from 5 m pc) (at + 1) 0 =
    second ∙ word_of_bytes m pc (at + 1) bytes loads small (omega arith) (subst (λ n. in_memory m pc n ≡ true) onward within) (is ∙ ap (λ n. part pc n m.bytes) onward) in
    let less : length bytes - 2 ≡ 2 * at + 2 = omega (arith, long) in
    let front : take (length bytes - 2) bytes ≡ part pc (2 * at + 2) m.bytes =
    rw (less, is) (take-take (2 * at + 2) (2 * at + 4) (drop pc m.bytes) (omega arith)) in
    let there : in_memory m pc (2 * at + 2) ≡ true = grind (arith, nat_tests) in
    let head : high ≡ get_or (words_from 5 m pc) at 0 =
    first ∙ word_of_bytes m pc at (take (length bytes - 2) bytes) loads small (omega arith) there front in
    rw (head, last) refl

-- as many words as are asked for, where they lie in memory
words_whole : (n a : ℕ) (m : Memory) → length m.bytes ≤ 16777216 → a + 2 * n ≤ length m.bytes → length (words_from n m a) ≡ n
unfolding words_from
words_whole zero a m small within = refl
words_whole (suc n) a m small within = rw (loaded-in m a (omega arith), onward-two a (omega arith)) (ap suc (words_whole n (a + 2) m small (omega arith)))

pub five_words : (pc : ℕ) (m : Memory) → length m.bytes ≤ 16777216 → pc + 10 ≤ length m.bytes → 5 ≤ length (words_at m pc)
five_words pc m small within = let whole = words_whole 5 pc m small (omega arith) in omega arith

-- the first word is that of the first two bytes
pub first_of_five : (pc : ℕ) (m : Memory) → length m.bytes ≤ 16777216 → pc + 10 ≤ length m.bytes → slice_index (words_at m pc) 0 ≡ big_number 2 (drop pc m.bytes)
first_of_five pc m small within =
    let there : loaded m (pc + 2 * 0) Two ≡ Ok (big_number 2 (drop pc m.bytes)) = grind (arith, nat_tests) in
    word_in 5 0 pc m small (omega arith) ∙ ap or_zero there

-- no more words than lie in memory
words_fewer : (n a : ℕ) (m : Memory) → length m.bytes ≤ 16777216 → length m.bytes < a + 2 * suc n → length (words_from (suc n) m a) < suc n
unfolding words_from
words_fewer zero a m small past = rw (loaded-out m a (omega arith)) (omega arith)
words_fewer (suc n) a m small past =
    elim (cases_lt (length m.bytes) (a + 2)) [
      | inr within ↦
          let fewer : length (words_from (suc n) m (a + 2)) < suc n = words_fewer n (a + 2) m small (omega arith) in
          rw (loaded-in m a within, onward-two a (omega arith)) (omega arith)
      | inl past ↦ rw (loaded-out m a past) (omega arith)
    ]

pub fewer_words : (pc : ℕ) (m : Memory) → length m.bytes ≤ 16777216 → length m.bytes < pc + 10 → length (words_at m pc) < 5
fewer_words pc m small past = words_fewer 4 pc m small (omega arith)
