-- Digits are read back.
use Rattle.std.proofs.Common.{◌≡◌, ℕ, ◌+◌, ◌*◌, ◌/◌, ◌%◌, ◌<◌, ◌==◌, not, Bool, true, false, arith, refl, ap, ◌∙◌}
use Rattle.std.proofs.lemmas.Bool.{eqb-true}
use Rattle.std.specs.Fmt.{digit_glyph}
use Rattle.mix_bits.specs.laws.Ranges.{every}
use Rattle.mix_bits.proofs.Every.{every_at}
use Rattle.asm_m68.specs.Reading.{nibble}

glyphs_back : every 4 0 (λ x. nibble (digit_glyph true x) == x) ≡ true
glyphs_back = refl

glyph_back : (x : ℕ) → x < 16 → nibble (digit_glyph true x) ≡ x
glyph_back x below = eqb-true _ _ (every_at 4 (λ y. nibble (digit_glyph true y) == y) x glyphs_back below)

no_brackets : every 4 0 (λ x. not (digit_glyph true x == 40)) ≡ true
no_brackets = refl

pub negated : (b : Bool) → not b ≡ true → b ≡ false
negated true h = cc
negated false h = refl

pub glyph_no_bracket : (x : ℕ) → x < 16 → (digit_glyph true x == 40) ≡ false
glyph_no_bracket x below = negated (digit_glyph true x == 40) (every_at 4 (λ y. not (digit_glyph true y == 40)) x no_brackets below)

-- the number that two glyphs are
abbrev pub two : ℕ → ℕ → ℕ
two a b = nibble (digit_glyph true a) * 16 + nibble (digit_glyph true b)

two_back : (a b : ℕ) → a < 16 → b < 16 → two a b ≡ a * 16 + b
two_back a b first second = ap (λ x. x * 16 + nibble (digit_glyph true b)) (glyph_back a first) ∙ ap (λ y. a * 16 + y) (glyph_back b second)

abbrev pub four : ℕ → ℕ → ℕ → ℕ → ℕ
four a b c d = two a b * 256 + two c d

four_back : (a b c d : ℕ) → a < 16 → b < 16 → c < 16 → d < 16 → four a b c d ≡ (a * 16 + b) * 256 + (c * 16 + d)
four_back a b c d fa fb fc fd = ap (λ x. x * 256 + two c d) (two_back a b fa fb) ∙ ap (λ y. (a * 16 + b) * 256 + y) (two_back c d fc fd)

pub two_digits : (v : ℕ) → two (v / 16 % 16) (v / 1 % 16) ≡ v % 256
two_digits v = two_back (v / 16 % 16) (v / 1 % 16) (omega arith) (omega arith) ∙ omega arith

pub four_digits : (v : ℕ) → four (v / 4096 % 16) (v / 256 % 16) (v / 16 % 16) (v / 1 % 16) ≡ v % 65536
four_digits v = four_back (v / 4096 % 16) (v / 256 % 16) (v / 16 % 16) (v / 1 % 16) (omega arith) (omega arith) (omega arith) (omega arith) ∙ omega arith

high_digits : (v : ℕ) → four (v / 268435456 % 16) (v / 16777216 % 16) (v / 1048576 % 16) (v / 65536 % 16) ≡ v / 65536 % 65536
high_digits v = four_back (v / 268435456 % 16) (v / 16777216 % 16) (v / 1048576 % 16) (v / 65536 % 16) (omega arith) (omega arith) (omega arith) (omega arith) ∙ omega arith

pub eight_digits : (v : ℕ) → four (v / 268435456 % 16) (v / 16777216 % 16) (v / 1048576 % 16) (v / 65536 % 16) * 65536 + four (v / 4096 % 16) (v / 256 % 16) (v / 16 % 16) (v / 1 % 16) ≡ v % 4294967296
eight_digits v =
    ap (λ x. x * 65536 + four (v / 4096 % 16) (v / 256 % 16) (v / 16 % 16) (v / 1 % 16)) (high_digits v)
    ∙ ap (λ y. v / 65536 % 65536 * 65536 + y) (four_digits v)
    ∙ omega arith

pub register_back : (n : ℕ) → n < 8 → (48 + n) % 8 ≡ n
register_back n below = omega (arith, below)

pub digit_back : (n : ℕ) → n < 10 → (48 + n) % 16 ≡ n
digit_back n below = omega (arith, below)
