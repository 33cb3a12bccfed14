-- Words that lie in memory as one piece.
use Rattle.std.proofs.Common.{◌≡◌, ℕ, zero, suc, ◌+◌, ◌*◌, ◌<◌, ◌≤◌, List, ◌++◌, length, take, drop, get_or, set, Ok, arith, sym, ◌∙◌, ap}
use Rattle.std.proofs.lemmas.List.{same_lists, places, get_or-set_same, length-set}
use Rattle.std.proofs.lemmas.Grind.{same_number_lists}
use Rattle.std.proofs.lemmas.Bool.{cases_eq}
use Rattle.mix_bits.specs.Addresses.{onward}
use Rattle.mix_bits.specs.declared.size.Size.TheVariants.{Four}
use Rattle.big_memory.specs.Memory.{Memory, IsRam, loaded}
use Rattle.big_memory.specs.Numbers.{long_at, longs_at}
use Rattle.big_memory.proofs.Numbers.{length_of_longs, loads_long, long_of_longs}
use Rattle.ppc_integer.specs.Strings.{in_order, load_word}
use Rattle.ppc_core.proofs.Order.{order-zero, word-more}

-- the registers when so many of them are loaded
with_longs : List ℕ → ℕ → ℕ → List ℕ → ℕ → List ℕ
with_longs bytes at d gpr k = take d gpr ++ (longs_at k at bytes ++ drop (d + k) gpr)

none-loaded : (bytes : List ℕ) (at d : ℕ) (gpr : List ℕ) → d ≤ length gpr → with_longs bytes at d gpr 0 ≡ gpr
unfolding with_longs longs_at
none-loaded bytes at d gpr within = same_lists _ _ (grind (arith, places)) (λ k x w. grind (arith, places))

one-more : (bytes : List ℕ) (at d : ℕ) (gpr : List ℕ) (k : ℕ) → d + k < length gpr → with_longs bytes at d gpr (k + 1) ≡ set (with_longs bytes at d gpr k) (d + k) (long_at (at + 4 * k) bytes)
unfolding with_longs
one-more bytes at d gpr k within =
    let size : (n : ℕ) → length (longs_at n at bytes) ≡ n = λ n. length_of_longs n at bytes in
    let each : (n j : ℕ) → j < n → get_or (longs_at n at bytes) j 0 ≡ long_at (at + 4 * j) bytes = λ n j below. long_of_longs n at bytes j below in
    same_number_lists _ _ (grind (arith, places, size, length-set {A = ℕ})) (λ j w. grind (arith, places, size, each, get_or-set_same, cases_eq j (d + k)))

so-far : (m : Memory) (at d : ℕ) (gpr : List ℕ) (n k : ℕ) → IsRam m → at + 4 * n ≤ length m.bytes → d + n ≤ length gpr → k ≤ n → in_order (load_word m at d) gpr k ≡ Ok (with_longs m.bytes at d gpr k)
so-far m at d gpr n zero ram within room below = order-zero (load_word m at d) gpr ∙ ap Ok (sym (none-loaded m.bytes at d gpr (omega arith)))
so-far m at d gpr n (suc k) ram within room below =
    let most : length m.bytes ≤ 16777216 = ram.most in
    let place : onward at (4 * k) ≡ at + 4 * k = omega arith in
    let more : k + 1 ≡ suc k = omega arith in
    let here : loaded m (onward at (4 * k)) Four ≡ Ok (long_at (at + 4 * k) m.bytes) = ap (λ a. loaded m a Four) place ∙ loads_long m (at + 4 * k) (omega arith) in
    ap (λ j. in_order (load_word m at d) gpr j) (sym more)
    ∙ word-more m at d gpr (with_longs m.bytes at d gpr k) (with_longs m.bytes at d gpr (k + 1)) k (long_at (at + 4 * k) m.bytes)
    (so-far m at d gpr n k ram within room (omega arith)) here (one-more m.bytes at d gpr k (omega arith))
    ∙ ap (λ j. Ok (with_longs m.bytes at d gpr j)) more

-- the words from an address on in the n registers from d on, the last ones
pub words-whole : (m : Memory) (at d n k : ℕ) (gpr longs : List ℕ) → IsRam m → at + 4 * n ≤ length m.bytes → d + n ≡ length gpr → k ≡ n → longs ≡ longs_at k at m.bytes
    → in_order (load_word m at d) gpr n ≡ Ok (take d gpr ++ (longs ++ drop n (drop d gpr)))
unfolding with_longs
words-whole m at d n k gpr longs ram within room size are =
    let rest : drop (d + n) gpr ≡ drop n (drop d gpr) = same_lists _ _ (grind (arith, places)) (λ j x w. grind (arith, places)) in
    so-far m at d gpr n n ram within (omega arith) (omega arith)
    ∙ ap (λ xs. Ok (take d gpr ++ (longs_at n at m.bytes ++ xs))) rest
    ∙ ap (λ xs. Ok (take d gpr ++ (xs ++ drop n (drop d gpr)))) (ap (λ j. longs_at j at m.bytes) (sym size) ∙ sym are)
