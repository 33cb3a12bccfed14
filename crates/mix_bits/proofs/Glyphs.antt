-- The table of pairs of hexadecimal digits, and eight digits as four pairs.
use Rattle.std.proofs.Common.{◌≡◌, ℕ, ◌+◌, ◌*◌, ◌/◌, ◌%◌, ◌^◌, ◌<◌, ◌==◌, true, [], ◌∷◌, ◌++◌, get_or, ap, refl, arith}
use Rattle.std.proofs.lemmas.Bool.{eqb-true}
use Rattle.std.specs.Fmt.{digit_glyph}
use Rattle.mix_bits.specs.Text.{hexadecimal}
use Rattle.mix_bits.specs.declared.line.TheConstants.{PAIRS}
use Rattle.mix_bits.proofs.Every.{every_at}

-- the table holds the first digit of each byte
first_at : (n : ℕ) → n < 256 → get_or PAIRS (2 * n) 0 ≡ digit_glyph true (n / 16 % 16)
first_at n below = eqb-true _ _ (every_at 8 (λ n. get_or PAIRS (2 * n) 0 == digit_glyph true (n / 16 % 16)) n refl below)

-- and its second digit behind that
second_at : (n : ℕ) → n < 256 → get_or PAIRS (2 * n + 1) 0 ≡ digit_glyph true (n % 16)
second_at n below = eqb-true _ _ (every_at 8 (λ n. get_or PAIRS (2 * n + 1) 0 == digit_glyph true (n % 16)) n refl below)

pub pair_at : (n : ℕ) → n < 256 → get_or PAIRS (2 * n) 0 ∷ get_or PAIRS (2 * n + 1) 0 ∷ [] ≡ hexadecimal 2 n
pair_at n below = rw (first_at n below) (rw (second_at n below) (ap (λ d. digit_glyph true (n / 16 % 16) ∷ digit_glyph true d ∷ []) (omega arith)))

-- a pair of a number's digits is the pair of a byte of it
pub by_pairs : (v : ℕ) → v < 2 ^ 32
    → hexadecimal 2 (v / 16777216) ++ hexadecimal 2 (v / 65536 % 256) ++ hexadecimal 2 (v / 256 % 256) ++ hexadecimal 2 (v % 256) ≡ hexadecimal 8 v
by_pairs v fits =
    let a : digit_glyph true (v / 16777216 / 16 % 16) ≡ digit_glyph true (v / 268435456 % 16) = ap (digit_glyph true) (omega (arith, fits)) in
    let b : digit_glyph true (v / 16777216 / 1 % 16) ≡ digit_glyph true (v / 16777216 % 16) = ap (digit_glyph true) (omega arith) in
    let c : digit_glyph true (v / 65536 % 256 / 16 % 16) ≡ digit_glyph true (v / 1048576 % 16) = ap (digit_glyph true) (omega arith) in
    let d : digit_glyph true (v / 65536 % 256 / 1 % 16) ≡ digit_glyph true (v / 65536 % 16) = ap (digit_glyph true) (omega arith) in
    let e : digit_glyph true (v / 256 % 256 / 16 % 16) ≡ digit_glyph true (v / 4096 % 16) = ap (digit_glyph true) (omega arith) in
    let f : digit_glyph true (v / 256 % 256 / 1 % 16) ≡ digit_glyph true (v / 256 % 16) = ap (digit_glyph true) (omega arith) in
    let g : digit_glyph true (v % 256 / 16 % 16) ≡ digit_glyph true (v / 16 % 16) = ap (digit_glyph true) (omega arith) in
    let h : digit_glyph true (v % 256 / 1 % 16) ≡ digit_glyph true (v / 1 % 16) = ap (digit_glyph true) (omega arith) in
    cc
