-- A test of all first words, computed over their parts: over a register only where the table looks at its number.
use Rattle.std.proofs.Common.{ℕ, ◌≡◌, ◌<◌, ◌==◌, ◌&&◌, ◌||◌, nat_lt, Bool, true, false, arith}
use Rattle.mix_bits.specs.Digits.{digit_of}
use Rattle.mix_bits.specs.laws.Ranges.{every}
use Rattle.mix_bits.proofs.Every.{every_at}
use Rattle.m68_isa.specs.First.{First, first_of}

abbrev pub first : ℕ → ℕ → ℕ → ℕ → ℕ → ℕ → First
first l u b s m r = record { line = l; upper = u; bit8 = b; size = s; mode = m; lower = r }

-- where the bits 11 to 9 are more than a register's number, or that of mode 7
abbrev pub by_upper : ℕ → ℕ → ℕ → Bool
by_upper l b s = ((l == 0) && (b == 0)) || (nat_lt l 4 && (b == 1) && (s == 3)) || (l == 4) || (l == 6) || ((l == 14) && (s == 3))

-- and the bits 2 to 0
abbrev pub by_lower : ℕ → ℕ → Bool
by_lower l m = (m == 7) || (l == 6) || ((l == 4) && (m == 6))

-- a test of each number of three bits, or of a number whatever it is
abbrev pub over : Bool → ℕ → (ℕ → Bool) → Bool
over true n p = every 3 0 p
over false n p = p n

abbrev of_lower : (First → Bool) → ℕ → ℕ → ℕ → ℕ → ℕ → ℕ → Bool
of_lower p l u b s m r = over (by_lower l m) r (λ x. p (first l u b s m x))

abbrev of_mode : (First → Bool) → ℕ → ℕ → ℕ → ℕ → ℕ → Bool
of_mode p l u b s r = every 3 0 (λ m. of_lower p l u b s m r)

abbrev of_upper : (First → Bool) → ℕ → ℕ → ℕ → ℕ → ℕ → Bool
of_upper p l u b s r = over (by_upper l b s) u (λ v. of_mode p l v b s r)

abbrev of_size : (First → Bool) → ℕ → ℕ → ℕ → ℕ → Bool
of_size p l u b r = every 2 0 (λ s. of_upper p l u b s r)

abbrev of_bit8 : (First → Bool) → ℕ → ℕ → ℕ → Bool
of_bit8 p l u r = every 1 0 (λ b. of_size p l u b r)

abbrev pub of_parts : (First → Bool) → ℕ → ℕ → Bool
of_parts p u r = every 4 0 (λ l. of_bit8 p l u r)

over_at : (needs : Bool) (n : ℕ) (p : ℕ → Bool) → n < 8 → over needs n p ≡ true → p n ≡ true
over_at true n p below is = every_at 3 p n is below
over_at false n p below is = is

pub at_parts : (p : First → Bool) (l u b s m r : ℕ) → l < 16 → u < 8 → b < 2 → s < 4 → m < 8 → r < 8 → of_parts p u r ≡ true → p (first l u b s m r) ≡ true
at_parts p l u b s m r line upper bit8 size mode lower is =
    let by_line = every_at 4 (λ k. of_bit8 p k u r) l is line in
    let by_bit8 = every_at 1 (λ k. of_size p l u k r) b by_line bit8 in
    let by_size = every_at 2 (λ k. of_upper p l u b k r) s by_bit8 size in
    let with_upper = over_at (by_upper l b s) u (λ v. of_mode p l v b s r) upper by_size in
    let by_mode = every_at 3 (λ k. of_lower p l u b s k r) m with_upper mode in
    over_at (by_lower l m) r (λ x. p (first l u b s m x)) lower by_mode

pub at_word : (p : First → Bool) (w : ℕ) → ((u r : ℕ) → of_parts p u r ≡ true) → p (first_of w) ≡ true
at_word p w is =
    at_parts p (digit_of w 12 4) (digit_of w 9 3) (digit_of w 8 1) (digit_of w 6 2) (digit_of w 3 3) (digit_of w 0 3)
    (omega arith) (omega arith) (omega arith) (omega arith) (omega arith) (omega arith)
    (is (digit_of w 9 3) (digit_of w 0 3))
