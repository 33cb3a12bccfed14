-- A test of all first words, computed over their parts: over a register only where a word is not told without its number,
-- and over a displacement only where it is not in the word.
use Rattle.std.proofs.Common.{ℕ, ◌≡◌, ◌⊎◌, inl, inr, ◌+◌, ◌*◌, ◌/◌, ◌%◌, ◌<◌, ◌==◌, ◌&&◌, ◌||◌, not, nat_lt, Bool, true, false, if◌then◌else◌, arith, refl, sym, ap, subst, ◌∙◌}
use Rattle.std.proofs.lemmas.Bool.{and_parts, eqb-true}
use Rattle.std.proofs.lemmas.Bool.Decides.{nat_tests}
use Rattle.mix_bits.specs.Digits.{digit_of}
use Rattle.mix_bits.specs.laws.Ranges.{every}
use Rattle.mix_bits.proofs.Every.{every_at}
use Rattle.m68_isa.specs.declared.op.Op68.{Op68}
use Rattle.m68_isa.specs.declared.op.Op68.TheVariants.{BraByte, BraWord, BraLong, BsrByte, BsrWord, BsrLong, BccByte, BccWord, BccLong, Illegal}
use Rattle.m68_isa.specs.Branches.{is_short}
use Rattle.m68_isa.specs.Operations.{operation}
use Rattle.m68_isa.specs.First.{First, first_of, low_byte}

abbrev pub first : ℕ → ℕ → ℕ → ℕ → ℕ → ℕ → First
first l u b s m r = record { line = l; upper = u; bit8 = b; size = s; mode = m; lower = r }

-- where bits 11 to 9 are more than a register's number, or that of mode 7
abbrev by_upper : ℕ → ℕ → ℕ → ℕ → Bool
by_upper l b s m = ((l == 0) && (b == 0)) || (nat_lt l 4 && (b == 1) && (s == 3)) || (l == 4) || (l == 5) || ((l == 14) && ((s == 3) || nat_lt m 4))

-- and bits 2 to 0
abbrev by_lower : ℕ → ℕ → ℕ → ℕ → ℕ → Bool
by_lower l u b s m = (m == 7) || (l == 7) || ((l == 4) && (u == 7) && (b == 0) && (s == 1))

-- a test of each number of three bits, or of a number whatever it is
abbrev over : Bool → ℕ → (ℕ → Bool) → Bool
over true n p = every 3 0 p
over false n p = p n

over_at : (needs : Bool) (n : ℕ) (p : ℕ → Bool) → n < 8 → over needs n p ≡ true → p n ≡ true
over_at true n p below is = every_at 3 p n is below
over_at false n p below is = is

abbrev of_lower : (First → Bool) → ℕ → ℕ → ℕ → ℕ → ℕ → ℕ → Bool
of_lower p r l b s m u = over (by_lower l u b s m) r (λ x. p (first l u b s m x))

abbrev of_upper : (First → Bool) → ℕ → ℕ → ℕ → ℕ → ℕ → ℕ → Bool
of_upper p u r l b s m = over (by_upper l b s m) u (of_lower p r l b s m)

abbrev of_mode : (First → Bool) → ℕ → ℕ → ℕ → ℕ → ℕ → Bool
of_mode p u r l b s = every 3 0 (of_upper p u r l b s)

abbrev of_size : (First → Bool) → ℕ → ℕ → ℕ → ℕ → Bool
of_size p u r l b = every 2 0 (of_mode p u r l b)

abbrev of_bit8 : (First → Bool) → ℕ → ℕ → ℕ → Bool
of_bit8 p u r l = every 1 0 (of_size p u r l)

-- the branches whose displacement is not in the first word
abbrev of_far : (First → Bool) → Bool
of_far p = every 4 0 (λ c. p (first 6 (c / 2) (c % 2) 0 0 0) && p (first 6 (c / 2) (c % 2) 3 7 7))

abbrev of_line : (First → Bool) → ℕ → ℕ → ℕ → Bool
of_line p u r l = if l == 6 then of_far p else of_bit8 p u r l

abbrev pub of_parts : (First → Bool) → ℕ → ℕ → Bool
of_parts p u r = every 4 0 (of_line p u r)

-- the operation of a branch of a condition with its displacement in the first word
abbrev pub near_branch : ℕ → Op68
near_branch c = if c == 0 then BraByte else if c == 1 then BsrByte else BccByte

-- a test of these branches
abbrev pub of_near : (Op68 → First → Bool) → ℕ → ℕ → ℕ → Bool
of_near p s m r = every 4 0 (λ c. p (near_branch c) (first 6 (c / 2) (c % 2) s m r))

-- the operation of a branch by its condition and by its low byte
abbrev branch_by : Bool → Bool → Bool → Bool → Bool → Bool → Op68
branch_by always call other short none all =
    if always && short then BraByte
    else if always && none then BraWord
    else if always && all then BraLong
    else if call && short then BsrByte
    else if call && none then BsrWord
    else if call && all then BsrLong
    else if other && short then BccByte
    else if other && none then BccWord
    else if other && all then BccLong
    else Illegal

short_near : (always call other none all : Bool) → (always ≡ false → call ≡ false → other ≡ true) → branch_by always call other true none all ≡ (if always then BraByte else if call then BsrByte else BccByte)
short_near true call other none all is = refl
short_near false true other none all is = refl
short_near false false true none all is = refl
short_near false false false none all is = absurd (no_other (is refl refl))
  where
    no_other : false ≡ true → ⊥
    no_other h = cc

is_other : (c : ℕ) → (c == 0) ≡ false → (c == 1) ≡ false → nat_lt 1 c ≡ true
is_other c not_always not_call = grind (arith, nat_tests, not_always, not_call)

is_near : (u b s m r : ℕ) → is_short (first 6 u b s m r) ≡ true → operation (first 6 u b s m r) ≡ near_branch (u * 2 + b)
is_near u b s m r short =
    let c : ℕ = u * 2 + b in
    let none : Bool = low_byte (first 6 u b s m r) == 0 in
    let all : Bool = low_byte (first 6 u b s m r) == 255 in
    ap (λ t. branch_by (c == 0) (c == 1) (nat_lt 1 c) t none all) short ∙ short_near (c == 0) (c == 1) (nat_lt 1 c) none all (is_other c)

at_near : (p : Op68 → First → Bool) (u b s m r : ℕ) → u < 8 → b < 2 → is_short (first 6 u b s m r) ≡ true → of_near p s m r ≡ true → p (operation (first 6 u b s m r)) (first 6 u b s m r) ≡ true
at_near p u b s m r upper bit8 short is =
    let c : ℕ = u * 2 + b in
    let op : operation (first 6 u b s m r) ≡ near_branch c = is_near u b s m r short in
    let found : p (near_branch c) (first 6 (c / 2) (c % 2) s m r) ≡ true = every_at 4 (λ n. p (near_branch n) (first 6 (n / 2) (n % 2) s m r)) c is (omega (arith, upper, bit8)) in
    let upper_is : c / 2 ≡ u = omega (arith, bit8) in
    let bit8_is : c % 2 ≡ b = omega (arith, bit8) in
    sym (λ i. p (sym op i) (first 6 (upper_is i) (bit8_is i) s m r)) ∙ found

at_far : (p : First → Bool) (u b s m r : ℕ) → u < 8 → b < 2 → s < 4 → m < 8 → r < 8 → is_short (first 6 u b s m r) ≡ false → of_far p ≡ true → p (first 6 u b s m r) ≡ true
at_far p u b s m r upper bit8 size mode lower long is =
    let c : ℕ = u * 2 + b in
    let parts : (p (first 6 (c / 2) (c % 2) 0 0 0) ≡ true) × (p (first 6 (c / 2) (c % 2) 3 7 7) ≡ true) = and_parts _ _ (every_at 4 (λ n. p (first 6 (n / 2) (n % 2) 0 0 0) && p (first 6 (n / 2) (n % 2) 3 7 7)) c is (omega (arith, upper, bit8))) in
    let upper_is : c / 2 ≡ u = omega (arith, bit8) in
    let bit8_is : c % 2 ≡ b = omega (arith, bit8) in
    elim (ends (low_byte (first 6 u b s m r)) long) [
      | inl none ↦
          let s_is : 0 ≡ s = omega (arith, none) in
          let m_is : 0 ≡ m = omega (arith, none) in
          let r_is : 0 ≡ r = omega (arith, none) in
          sym (λ i. p (first 6 (upper_is i) (bit8_is i) (s_is i) (m_is i) (r_is i))) ∙ parts.0
      | inr all ↦
          let s_is : 3 ≡ s = omega (arith, all, size, mode, lower) in
          let m_is : 7 ≡ m = omega (arith, all, size, mode, lower) in
          let r_is : 7 ≡ r = omega (arith, all, size, mode, lower) in
          sym (λ i. p (first 6 (upper_is i) (bit8_is i) (s_is i) (m_is i) (r_is i))) ∙ parts.1
    ]
  where
    ends_by : (n : ℕ) (none all : Bool) → (n == 0) ≡ none → (n == 255) ≡ all → not (none || all) ≡ false → (n ≡ 0) ⊎ (n ≡ 255)
    ends_by n true all is_none is_all h = inl (eqb-true n 0 is_none)
    ends_by n false true is_none is_all h = inr (eqb-true n 255 is_all)
    ends_by n false false is_none is_all h = cc

    ends : (n : ℕ) → not ((n == 0) || (n == 255)) ≡ false → (n ≡ 0) ⊎ (n ≡ 255)
    ends n h = ends_by n (n == 0) (n == 255) refl refl h

at_branch : (p : Op68 → First → Bool) (u b s m r : ℕ) → u < 8 → b < 2 → s < 4 → m < 8 → r < 8 → of_far (λ f. p (operation f) f) ≡ true → of_near p s m r ≡ true → (short : Bool) → is_short (first 6 u b s m r) ≡ short → p (operation (first 6 u b s m r)) (first 6 u b s m r) ≡ true
at_branch p u b s m r upper bit8 size mode lower far near true is = at_near p u b s m r upper bit8 is near
at_branch p u b s m r upper bit8 size mode lower far near false is = at_far (λ f. p (operation f) f) u b s m r upper bit8 size mode lower is far

at_other : (p : First → Bool) (l u b s m r : ℕ) → u < 8 → b < 2 → s < 4 → m < 8 → r < 8 → of_bit8 p u r l ≡ true → p (first l u b s m r) ≡ true
at_other p l u b s m r upper bit8 size mode lower by_line =
    let by_bit8 = every_at 1 (of_size p u r l) b by_line bit8 in
    let by_size = every_at 2 (of_mode p u r l b) s by_bit8 size in
    let by_mode = every_at 3 (of_upper p u r l b s) m by_size mode in
    let with_upper = over_at (by_upper l b s m) u (of_lower p r l b s m) upper by_mode in
    over_at (by_lower l u b s m) r (λ x. p (first l u b s m x)) lower with_upper

at_parts : (p : Op68 → First → Bool) (l u b s m r : ℕ) → u < 8 → b < 2 → s < 4 → m < 8 → r < 8 → of_near p s m r ≡ true → (is_six : Bool) → (l == 6) ≡ is_six → (if is_six then of_far (λ f. p (operation f) f) else of_bit8 (λ f. p (operation f) f) u r l) ≡ true → p (operation (first l u b s m r)) (first l u b s m r) ≡ true
at_parts p l u b s m r upper bit8 size mode lower near true six is =
    subst (λ n. p (operation (first n u b s m r)) (first n u b s m r) ≡ true) (sym (eqb-true l 6 six)) (at_branch p u b s m r upper bit8 size mode lower is near (is_short (first 6 u b s m r)) refl)
at_parts p l u b s m r upper bit8 size mode lower near false six is = at_other (λ f. p (operation f) f) l u b s m r upper bit8 size mode lower is

-- a test that holds over the parts, and of the branches with their displacement in the first word, holds of each word
pub at_word : (p : Op68 → First → Bool) (w : ℕ) → ((u r : ℕ) → of_parts (λ f. p (operation f) f) u r ≡ true) → ((s m r : ℕ) → of_near p s m r ≡ true) → p (operation (first_of w)) (first_of w) ≡ true
at_word p w all near =
    let l : ℕ = digit_of w 12 4 in
    let u : ℕ = digit_of w 9 3 in
    let r : ℕ = digit_of w 0 3 in
    at_parts p l u (digit_of w 8 1) (digit_of w 6 2) (digit_of w 3 3) r
    (omega arith) (omega arith) (omega arith) (omega arith) (omega arith)
    (near (digit_of w 6 2) (digit_of w 3 3) r) (l == 6) refl
    (every_at 4 (of_line (λ f. p (operation f) f) u r) l (all u r) (omega arith))
