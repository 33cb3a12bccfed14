-- Longs of an image, one behind the other.
use Rattle.std.proofs.Common.{◌≡◌, ℕ, zero, suc, ◌+◌, ◌*◌, ◌^◌, ◌<◌, List, [], ◌∷◌, ◌++◌, get_or, arith, ap, sym, subst, ◌∙◌, refl}
use Rattle.big_memory.specs.Numbers.{AreBytes, long_at, longs_at}
use Rattle.big_memory.proofs.Numbers.{longs_fit}

pub no-longs : (a : ℕ) (bytes : List ℕ) → longs_at 0 a bytes ≡ []
unfolding longs_at
no-longs a bytes = refl

pub cons-long : (n a b : ℕ) (bytes : List ℕ) → b ≡ a + 4 → longs_at (suc n) a bytes ≡ long_at a bytes ∷ longs_at n b bytes
unfolding longs_at
cons-long n a b bytes next = ap (λ c. long_at a bytes ∷ longs_at n c bytes) (sym next)

pub longs-split : (m n a b : ℕ) (bytes : List ℕ) → b ≡ a + 4 * m → longs_at (m + n) a bytes ≡ longs_at m a bytes ++ longs_at n b bytes
unfolding longs_at
longs-split zero n a b bytes place =
    let count : zero + n ≡ n = omega arith in
    let same : a ≡ b = omega arith in
    ap (λ k. longs_at k a bytes) count ∙ ap (λ c. longs_at n c bytes) same
longs-split (suc m) n a b bytes place =
    let count : suc m + n ≡ suc (m + n) = omega arith in
    ap (λ k. longs_at k a bytes) count ∙ ap (λ xs. long_at a bytes ∷ xs) (longs-split m n (a + 4) b bytes (omega arith))

pub two-longs : (a b : ℕ) (bytes : List ℕ) → b ≡ a + 4 → longs_at 2 a bytes ≡ long_at a bytes ∷ long_at b bytes ∷ []
two-longs a b bytes next =
    cons-long 1 a b bytes next ∙ ap (λ xs. long_at a bytes ∷ xs) (cons-long 0 b (b + 4) bytes refl ∙ ap (λ xs. long_at b bytes ∷ xs) (no-longs (b + 4) bytes))

pub four-longs : (a b c d : ℕ) (bytes : List ℕ) → b ≡ a + 4 → c ≡ a + 8 → d ≡ a + 12 → longs_at 4 a bytes ≡ long_at a bytes ∷ long_at b bytes ∷ long_at c bytes ∷ long_at d bytes ∷ []
four-longs a b c d bytes b_is c_is d_is =
    longs-split 2 2 a c bytes (omega arith)
    ∙ ap (λ xs. xs ++ longs_at 2 c bytes) (two-longs a b bytes b_is)
    ∙ ap (λ xs. long_at a bytes ∷ long_at b bytes ∷ xs) (two-longs c d bytes (omega arith))

-- a long of bytes
pub one-long : (a : ℕ) (bytes : List ℕ) → AreBytes bytes → long_at a bytes < 2 ^ 32
one-long a bytes fit =
    let same : get_or (longs_at 1 a bytes) 0 0 ≡ long_at a bytes = ap (λ xs. get_or xs 0 0) (cons-long 0 a (a + 4) bytes refl) in
    subst (λ n. n < 2 ^ 32) same ((longs_fit 1 a bytes fit).each 0)
