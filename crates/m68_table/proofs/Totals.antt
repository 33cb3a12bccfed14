-- How many first words pass a test of their parts, computed over those parts that the test needs.
use Rattle.std.proofs.Common.{ℕ, zero, suc, ◌≡◌, ◌+◌, ◌*◌, ◌/◌, ◌%◌, ◌^◌, ◌<◌, ◌≤◌, Bool, true, false, if◌then◌else◌, arith, refl, ap, sym, ◌∙◌}
use Rattle.std.proofs.Math.Nat.{pow-suc}
use Rattle.m68_isa.specs.First.{First, first_of}
use Rattle.m68_table.specs.laws.Laws.{how_many}
use Rattle.m68_table.proofs.Fields.{first, by_upper, by_lower, of_parts, at_word}

-- the sum of what the 2 ^ k numbers from 2 ^ k * base on count
abbrev total : ℕ → ℕ → (ℕ → ℕ) → ℕ
total zero base f = f base
total (suc k) base f = total k (base * 2) f + total k (base * 2 + 1) f

abbrev bit : Bool → ℕ
bit b = if b then 1 else 0

as_total : (k base : ℕ) (p : ℕ → Bool) → how_many k base p ≡ total k base (λ n. bit (p n))
as_total zero base p = refl
as_total (suc k) base p = λ i. as_total k (base * 2) p i + as_total k (base * 2 + 1) p i

-- the numbers of more bits by their lower bits
split : (j k base : ℕ) (f : ℕ → ℕ) → total (j + k) base f ≡ total j base (λ n. total k n f)
split zero k base f = ap (λ n. total n base f) (let same : 0 + k ≡ k = omega arith in same)
split (suc j) k base f =
    ap (λ n. total n base f) (let same : suc j + k ≡ suc (j + k) = omega arith in same)
    ∙ (λ i. split j k (base * 2) f i + split j k (base * 2 + 1) f i)

shift : (k c base : ℕ) (f : ℕ → ℕ) → total k (c + base) f ≡ total k base (λ n. f (c * 2 ^ k + n))
shift zero c base f = ap f (omega arith)
shift (suc k) c base f =
    let place : c * 2 * 2 ^ k ≡ c * 2 ^ suc k = rw (pow-suc 2 k) (grind arith) in
    let low : (c + base) * 2 ≡ c * 2 + base * 2 = omega arith in
    let high : (c + base) * 2 + 1 ≡ c * 2 + (base * 2 + 1) = omega arith in
    let first = ap (λ n. total k n f) low ∙ shift k (c * 2) (base * 2) f ∙ ap (λ x. total k (base * 2) (λ n. f (x + n))) place in
    let second = ap (λ n. total k n f) high ∙ shift k (c * 2) (base * 2 + 1) f ∙ ap (λ x. total k (base * 2 + 1) (λ n. f (x + n))) place in
    λ i. first i + second i

from_zero : (k c : ℕ) (f : ℕ → ℕ) → total k c f ≡ total k 0 (λ n. f (c * 2 ^ k + n))
from_zero k c f = ap (λ n. total k n f) (let same : c ≡ c + 0 = omega arith in same) ∙ shift k c 0 f

digits : (j k : ℕ) (f : ℕ → ℕ) → total (j + k) 0 f ≡ total j 0 (λ t. total k 0 (λ r. f (t * 2 ^ k + r)))
digits j k f = split j k 0 f ∙ (λ i. total j 0 (λ t. from_zero k t f i))

abbrev word : ℕ → ℕ → ℕ → ℕ → ℕ → ℕ → ℕ
word l u b s m r = ((((l * 8 + u) * 2 + b) * 4 + s) * 8 + m) * 8 + r

parts : (f : ℕ → ℕ) → total 16 0 f ≡ total 4 0 (λ l. total 3 0 (λ u. total 1 0 (λ b. total 2 0 (λ s. total 3 0 (λ m. total 3 0 (λ r. f (word l u b s m r)))))))
parts f =
    digits 13 3 f
    ∙ digits 10 3 (λ t. total 3 0 (λ r. f (t * 8 + r)))
    ∙ digits 8 2 (λ t. total 3 0 (λ m. total 3 0 (λ r. f ((t * 8 + m) * 8 + r))))
    ∙ digits 7 1 (λ t. total 2 0 (λ s. total 3 0 (λ m. total 3 0 (λ r. f (((t * 4 + s) * 8 + m) * 8 + r)))))
    ∙ digits 4 3 (λ t. total 1 0 (λ b. total 2 0 (λ s. total 3 0 (λ m. total 3 0 (λ r. f ((((t * 2 + b) * 4 + s) * 8 + m) * 8 + r))))))

-- what counts the same below a bound has the same sum
within : (k base : ℕ) (f g : ℕ → ℕ) → ((n : ℕ) → 2 ^ k * base ≤ n → n < 2 ^ k * (base + 1) → f n ≡ g n) → total k base f ≡ total k base g
within zero base f g same = same base (omega arith) (omega arith)
within (suc k) base f g same =
    let first = within k (base * 2) f g (λ n from to. same n (rw (pow-suc 2 k) (grind (arith, from))) (rw (pow-suc 2 k) (grind (arith, to)))) in
    let second = within k (base * 2 + 1) f g (λ n from to. same n (rw (pow-suc 2 k) (grind (arith, from))) (rw (pow-suc 2 k) (grind (arith, to)))) in
    λ i. first i + second i

below : (k : ℕ) (f g : ℕ → ℕ) → ((n : ℕ) → n < 2 ^ k → f n ≡ g n) → total k 0 f ≡ total k 0 g
below k f g same = within k 0 f g (λ n from to. same n (omega (arith, to)))

parts_are : (l u b s m r : ℕ) → l < 16 → u < 8 → b < 2 → s < 4 → m < 8 → r < 8 → first_of (word l u b s m r) ≡ first l u b s m r
parts_are l u b s m r line upper bit8 size mode lower =
    let at_12 : word l u b s m r / 4096 % 16 ≡ l = omega (arith, line, upper, bit8, size, mode, lower) in
    let at_9 : word l u b s m r / 512 % 8 ≡ u = omega (arith, line, upper, bit8, size, mode, lower) in
    let at_8 : word l u b s m r / 256 % 2 ≡ b = omega (arith, line, upper, bit8, size, mode, lower) in
    let at_6 : word l u b s m r / 64 % 4 ≡ s = omega (arith, line, upper, bit8, size, mode, lower) in
    let at_3 : word l u b s m r / 8 % 8 ≡ m = omega (arith, line, upper, bit8, size, mode, lower) in
    let at_0 : word l u b s m r / 1 % 8 ≡ r = omega (arith, line, upper, bit8, size, mode, lower) in
    λ i. record { line = at_12 i; upper = at_9 i; bit8 = at_8 i; size = at_6 i; mode = at_3 i; lower = at_0 i }

of_first : (q : First → ℕ) → total 16 0 (λ w. q (first_of w)) ≡ total 4 0 (λ l. total 3 0 (λ u. total 1 0 (λ b. total 2 0 (λ s. total 3 0 (λ m. total 3 0 (λ r. q (first l u b s m r)))))))
of_first q =
    parts (λ w. q (first_of w))
    ∙ below 4 _ _ (λ l line. below 3 _ _ (λ u upper. below 1 _ _ (λ b bit8. below 2 _ _ (λ s size. below 3 _ _ (λ m mode. below 3 _ _ (λ r lower. ap q (parts_are l u b s m r line upper bit8 size mode lower)))))))

-- one sum within another
added : (k base : ℕ) (f g : ℕ → ℕ) → total k base f + total k base g ≡ total k base (λ n. f n + g n)
added zero base f g = refl
added (suc k) base f g =
    let low = added k (base * 2) f g in
    let high = added k (base * 2 + 1) f g in
    omega (arith, low, high)

exchanged : (j k base c : ℕ) (f : ℕ → ℕ → ℕ) → total j base (λ a. total k c (λ b. f a b)) ≡ total k c (λ b. total j base (λ a. f a b))
exchanged zero k base c f = refl
exchanged (suc j) k base c f =
    (λ i. exchanged j k (base * 2) c f i + exchanged j k (base * 2 + 1) c f i) ∙ added k c (λ b. total j (base * 2) (λ a. f a b)) (λ b. total j (base * 2 + 1) (λ a. f a b))

-- a number of three bits that may not matter
abbrev part : Bool → (ℕ → ℕ) → ℕ
part true f = total 3 0 f
part false f = 8 * f 0

part_is : (needs : Bool) (f : ℕ → ℕ) → total 3 0 (λ n. f (if needs then n else 0)) ≡ part needs f
part_is true f = refl
part_is false f = omega arith

-- a first word with 0 in place of what does not matter
abbrev pub reduced : First → First
reduced f = first f.line (if by_upper f.line f.bit8 f.size then f.upper else 0) f.bit8 f.size f.mode (if by_lower f.line f.mode then f.lower else 0)

abbrev same : Bool → Bool → Bool
same true b = b
same false true = false
same false false = true

same_is : (a b : Bool) → same a b ≡ true → a ≡ b
same_is true b is = sym is
same_is false true is = is
same_is false false is = refl

abbrev pub is_same : (First → Bool) → First → Bool
is_same q f = same (q f) (q (reduced f))

abbrev pub counted : (First → Bool) → ℕ
counted q = total 4 0 (λ l. total 1 0 (λ b. total 2 0 (λ s. part (by_upper l b s) (λ u. total 3 0 (λ m. part (by_lower l m) (λ r. bit (q (first l u b s m r))))))))

of_reduced : (q : First → Bool) → total 4 0 (λ l. total 3 0 (λ u. total 1 0 (λ b. total 2 0 (λ s. total 3 0 (λ m. total 3 0 (λ r. bit (q (reduced (first l u b s m r))))))))) ≡ counted q
of_reduced q =
    (λ i. total 4 0 (λ l. total 3 0 (λ u. total 1 0 (λ b. total 2 0 (λ s. total 3 0 (λ m. part_is (by_lower l m) (λ r. bit (q (first l (if by_upper l b s then u else 0) b s m r))) i))))))
    ∙ (λ i. total 4 0 (λ l. exchanged 3 1 0 0 (λ u b. total 2 0 (λ s. total 3 0 (λ m. part (by_lower l m) (λ r. bit (q (first l (if by_upper l b s then u else 0) b s m r)))))) i))
    ∙ (λ i. total 4 0 (λ l. total 1 0 (λ b. exchanged 3 2 0 0 (λ u s. total 3 0 (λ m. part (by_lower l m) (λ r. bit (q (first l (if by_upper l b s then u else 0) b s m r))))) i)))
    ∙ (λ i. total 4 0 (λ l. total 1 0 (λ b. total 2 0 (λ s. part_is (by_upper l b s) (λ u. total 3 0 (λ m. part (by_lower l m) (λ r. bit (q (first l u b s m r))))) i))))

pub count_is : (q : First → Bool) → ((u r : ℕ) → of_parts (is_same q) u r ≡ true) → how_many 16 0 (λ w. q (first_of w)) ≡ counted q
count_is q all =
    as_total 16 0 (λ w. q (first_of w))
    ∙ (λ i. total 16 0 (λ w. bit (same_is (q (first_of w)) (q (reduced (first_of w))) (at_word (is_same q) w all) i)))
    ∙ of_first (λ f. bit (q (reduced f)))
    ∙ of_reduced q
