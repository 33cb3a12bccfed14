-- Words from memory on.
use Rattle.std.proofs.Common.{◌≡◌, ℕ, ◌+◌, ◌-◌, ◌<◌, ◌≤◌, ◌==◌, ◌∙◌, Bool, false, zero, suc, List, [], ◌∷◌, length, take, drop, set, Ok, ap, sym, arith}
use Rattle.std.proofs.lemmas.Bool.Decides.{nat_tests}
use Rattle.std.proofs.lemmas.Grind.{common_steps}
use borrow.Rule.Slice.PartMut.{put_mid}
use Rattle.mix_bits.specs.declared.size.Size.TheVariants.{Two}
use Rattle.mix_bits.specs.Addresses.{onward}
use Rattle.big_memory.specs.Memory.{Memory, loaded}
use Rattle.m68_ea.specs.Words.{word_and, words_from}

-- a list of which the first element and then all others are written
put-first : (first x : ℕ) (xs rest : List ℕ) → put_mid 1 (length (set (x ∷ xs) 0 first) - 1) (set (x ∷ xs) 0 first) rest ≡ first ∷ rest
put-first first x xs rest =
    let whole : length xs ≤ length (first ∷ xs) - 1 = omega arith in
    grind (arith, common_steps)

pub put_rest : (first : ℕ) (list rest : List ℕ) → 0 < length list → put_mid 1 (length (set list 0 first) - 1) (set list 0 first) rest ≡ first ∷ rest
put_rest first [] rest some = absurd (omega (arith, some))
put_rest first (x ∷ xs) rest some = put-first first x xs rest

one-more : (n : ℕ) → 1 + n ≡ suc n
one-more n = omega arith

-- one word more
pub words_more : (m : Memory) (a word count n : ℕ) (rest : List ℕ) → 0 < count → Ok word ≡ loaded m a Two → take n rest ≡ words_from (count - 1) m (onward a 2)
    → take (1 + n) (word ∷ rest) ≡ words_from count m a
unfolding words_from
words_more m a word zero n rest some first others = absurd (omega (arith, some))
words_more m a word (suc count) n rest some first others =
    let same : suc count - 1 ≡ count = omega arith in
    ap (λ k. take k (word ∷ rest)) (one-more n)
    ∙ (ap (λ ws. word ∷ ws) (others ∙ ap (λ k. words_from k m (onward a 2)) same) ∙ ap (λ r. word_and r (words_from count m (onward a 2))) first)

pub some_of : (list : List ℕ) (b : Bool) → b ≡ (length list == 0) → b ≡ false → 0 < length list
some_of list b is none = grind (arith, nat_tests)

-- the places behind the first
pub tail_length : (first : ℕ) (list : List ℕ) → 0 < length list → length (take (length (set list 0 first) - 1) (drop 1 (set list 0 first))) ≡ length list - 1
tail_length first [] some = absurd (omega (arith, some))
tail_length first (x ∷ xs) some = grind (arith, common_steps)

-- the places behind the words that are read
pub rest_kept : (first n : ℕ) (list rest : List ℕ) → 0 < length list → drop n rest ≡ drop n (take (length (set list 0 first) - 1) (drop 1 (set list 0 first)))
    → drop (1 + n) (first ∷ rest) ≡ drop (1 + n) list
rest_kept first n [] rest some kept = absurd (omega (arith, some))
rest_kept first n (x ∷ xs) rest some kept =
    let all : take (length (set (x ∷ xs) 0 first) - 1) (drop 1 (set (x ∷ xs) 0 first)) ≡ xs = grind (arith, common_steps) in
    ap (λ k. drop k (first ∷ rest)) (one-more n) ∙ (kept ∙ ap (drop n) all) ∙ ap (λ k. drop k (x ∷ xs)) (sym (one-more n))
