-- Hexadecimal digits are read as the number that they write.
use Rattle.std.proofs.Common.{◌≡◌, ◌⊎◌, inl, inr, ℕ, zero, suc, ◌+◌, ◌*◌, ◌/◌, ◌%◌, ◌^◌, ◌<◌, ◌≤◌, ◌==◌, List, [], ◌∷◌, length, take, get_or, Bool, true, false, Some, None, if◌then◌else◌, arith, refl, sym, ap, subst, ◌∙◌}
use Rattle.std.specs.Char.{digit_value}
use Rattle.std.specs.Fmt.{digit_glyph}
use Rattle.std.specs.List.{list_all}
use Rattle.std.specs.Str.Parse.{digits_value, digits_value_after, AllDigits}
use Rattle.std.proofs.Math.Nat.{div-div-eq-div-mul, div-eq_of_lt, div-one, mod-lt, pow-le-pow_right, pow-suc}
use Rattle.std.proofs.lemmas.Nat.{div-add-mod', div-mul-add}
use Rattle.std.proofs.lemmas.Int.Digits.{digits_value-lt, digits_value_more}
use Rattle.std.proofs.lemmas.Str.Parse.{digits_value-take-le}
use Rattle.std.proofs.lemmas.Bool.{and_from, and_parts, eqb-true, eq-eqb}
use Rattle.std.proofs.lemmas.Grind.{common_steps}
use Rattle.mix_bits.specs.laws.Numbers.{ReadsHexadecimals}
use Rattle.mix_bits.specs.Numbers.{are_hex_digits, hexadecimal_number, is_hex_digit}
use Rattle.mix_bits.specs.Text.{hexadecimal}

digit-small : (c : ℕ) → is_hex_digit c ≡ true → digit_value c < 16
digit-small c is = grind (arith, common_steps)

-- a digit is written as it was read, and read as it was written
digit-written : (c : ℕ) → is_hex_digit c ≡ true → digit_glyph true (digit_value c) ≡ c
digit-written c is = grind (arith, common_steps)

digit-read : (d : ℕ) → d < 16 → digit_value (digit_glyph true d) ≡ d
digit-read d small = grind (arith, common_steps)

glyph-digit : (d : ℕ) → d < 16 → is_hex_digit (digit_glyph true d) ≡ true
glyph-digit d small = grind (arith, common_steps)

parts : (c : ℕ) (cs : List ℕ) → list_all is_hex_digit (c ∷ cs) ≡ true → (is_hex_digit c ≡ true) × (list_all is_hex_digit cs ≡ true)
parts c cs all = and_parts (is_hex_digit c) (list_all is_hex_digit cs) all

all-digits : (text : List ℕ) → list_all is_hex_digit text ≡ true → AllDigits 16 text
all-digits [] all = tt
all-digits (c ∷ cs) all = (digit-small c (parts c cs all).0, all-digits cs (parts c cs all).1)

-- a number without the digits that follow it
front : (n : ℕ) (cs : List ℕ) → list_all is_hex_digit cs ≡ true → digits_value_after 16 n cs / 16 ^ length cs ≡ n
front n [] all = div-one n
front n (c ∷ cs) all =
    let is = parts c cs all in
    ap (λ m. digits_value_after 16 (n * 16 + digit_value c) cs / m) (pow-suc 16 (length cs))
    ∙ sym (div-div-eq-div-mul _ (16 ^ length cs) 16)
    ∙ ap (λ m. m / 16) (front (n * 16 + digit_value c) cs is.1)
    ∙ div-mul-add n 16 (digit_value c) (digit-small c is.0)

low : (n d : ℕ) → d < 16 → (n * 16 + d) % 16 ≡ d
low n d small = omega arith

written : (n : ℕ) (cs : List ℕ) → list_all is_hex_digit cs ≡ true → hexadecimal (length cs) (digits_value_after 16 n cs) ≡ cs
written n [] all = refl
written n (c ∷ cs) all =
    let is = parts c cs all in
    let digit : digit_glyph true (digits_value_after 16 (n * 16 + digit_value c) cs / 16 ^ length cs % 16) ≡ c =
    ap (λ m. digit_glyph true (m % 16)) (front (n * 16 + digit_value c) cs is.1)
    ∙ ap (digit_glyph true) (low n (digit_value c) (digit-small c is.0)) ∙ digit-written c is.0 in
    ap (λ d. d ∷ hexadecimal (length cs) (digits_value_after 16 (n * 16 + digit_value c) cs)) digit
    ∙ ap (λ ds. c ∷ ds) (written (n * 16 + digit_value c) cs is.1)

read : (k v : ℕ) → digits_value_after 16 (v / 16 ^ k) (hexadecimal k v) ≡ v
read zero v = div-one v
read (suc k) v =
    let d : ℕ = v / 16 ^ k % 16 in
    let above : v / 16 ^ suc k ≡ v / 16 ^ k / 16 = ap (λ m. v / m) (pow-suc 16 k) ∙ sym (div-div-eq-div-mul v (16 ^ k) 16) in
    let digit : digit_value (digit_glyph true d) ≡ d = digit-read d (mod-lt (v / 16 ^ k) (omega arith)) in
    let whole : v / 16 ^ suc k * 16 + digit_value (digit_glyph true d) ≡ v / 16 ^ k =
    ap (λ m. m * 16 + digit_value (digit_glyph true d)) above ∙ ap (λ m. v / 16 ^ k / 16 * 16 + m) digit ∙ div-add-mod' (v / 16 ^ k) 16 in
    ap (λ m. digits_value_after 16 m (hexadecimal k v)) whole ∙ read k v

glyphs : (k v : ℕ) → (length (hexadecimal k v) ≡ k) × (list_all is_hex_digit (hexadecimal k v) ≡ true)
glyphs zero v = (refl, refl)
glyphs (suc k) v =
    let rest = glyphs k v in
    (ap suc rest.0, and_from _ _ (glyph-digit (v / 16 ^ k % 16) (mod-lt (v / 16 ^ k) (omega arith))) rest.1)

-- the number so far and one more digit, of eight at most, has 32 bits
pub more_fits : (text : List ℕ) (i : ℕ) → length text ≤ 8 → list_all is_hex_digit text ≡ true → i < length text → digits_value 16 (take i text) * 16 + digit_value (get_or text i 0) < 2 ^ 32
more_fits text i short all inside =
    let whole : digits_value 16 text < 16 ^ length text = digits_value-lt 16 text (all-digits text all) in
    let most : 16 ^ length text ≤ 16 ^ 8 = pow-le-pow_right (omega arith) short in
    omega (arith, whole, most, digits_value_more 16 text i inside, digits_value-take-le 16 text (i + 1) (omega arith))

pub one_more : (text : List ℕ) (i n d : ℕ) → i < length text → n ≡ digits_value 16 (take i text) → d ≡ digit_value (get_or text i 0) → n * 16 + d ≡ digits_value 16 (take (i + 1) text)
one_more text i n d inside before digit = ap (λ m. m * 16 + d) before ∙ ap (λ m. digits_value 16 (take i text) * 16 + m) digit ∙ sym (digits_value_more 16 text i inside)

tests : (b : Bool) (n : ℕ) → ((if b then Some n else None) ≡ None) ⊎ (b ≡ true)
tests true n = inr refl
tests false n = inl refl

passes : (b : Bool) (n : ℕ) → b ≡ true → (if b then Some n else None) ≡ Some n
passes true n is = refl
passes false n is = cc

digits-read : (count : ℕ) (text : List ℕ) (n : ℕ) → n < 16 ^ count → hexadecimal count n ≡ text → digits_value 16 text ≡ n
digits-read count text n small same =
    ap (digits_value 16) (sym same) ∙ ap (λ m. digits_value_after 16 m (hexadecimal count n)) (sym (div-eq_of_lt small)) ∙ read count n

digits-are : (count : ℕ) (text : List ℕ) (n : ℕ) → hexadecimal count n ≡ text → are_hex_digits count text ≡ true
digits-are count text n same =
    let all = glyphs count n in
    subst (λ t. are_hex_digits count t ≡ true) same (and_from _ _ (eq-eqb (length (hexadecimal count n)) count all.0) all.1)

digits-written : (count : ℕ) (text : List ℕ) (n : ℕ) → are_hex_digits count text ≡ true → digits_value 16 text ≡ n → (n < 16 ^ count) × (hexadecimal count n ≡ text)
digits-written count text n are value =
    let is = and_parts (length text == count) (list_all is_hex_digit text) are in
    let long : length text ≡ count = eqb-true (length text) count is.0 in (
      subst (λ m. m < 16 ^ count) value (subst (λ k. digits_value 16 text < 16 ^ k) long (digits_value-lt 16 text (all-digits text is.1))),
      ap (hexadecimal count) (sym value) ∙ ap (λ k. hexadecimal k (digits_value 16 text)) (sym long) ∙ written 0 text is.1,
    )

pub reads_hexadecimals : ReadsHexadecimals
unfolding hexadecimal_number
reads_hexadecimals count text n = (
  λ is. elim (tests (are_hex_digits count text) (digits_value 16 text)) [
    | inl none ↦ absurd (let no : None ≡ Some n = sym none ∙ is in cc)
    | inr are ↦ digits-written count text n are (let one : Some (digits_value 16 text) ≡ Some n = sym (passes (are_hex_digits count text) (digits_value 16 text) are) ∙ is in cc)
  ],
  λ given. passes (are_hex_digits count text) (digits_value 16 text) (digits-are count text n given.1) ∙ ap Some (digits-read count text n given.0 given.1),
)
