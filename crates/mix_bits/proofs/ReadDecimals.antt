-- A text that is the decimal digits of a number is read as that number, and no other text as one.
use Rattle.std.proofs.Common.{◌≡◌, ℕ, ◌<◌, ◌^◌, ◌&&◌, ◌⊎◌, inl, inr, decimal, Some, None, Bool, true, false, List, nat_lt, if◌then◌else◌, arith, sym, ap, subst, ◌∙◌, refl}
use Rattle.std.specs.Str.{bytes_eq, IsUtf8}
use Rattle.std.specs.Str.Parse.{digits_value}
use Rattle.std.proofs.lemmas.Fmt.{decimal_is_IsNumeral, IsAscii-decimal}
use Rattle.std.proofs.lemmas.Str.{IsUtf8-from_ascii}
use Rattle.std.proofs.lemmas.Slice.Eq.{bytes_eq-Decides}
use Rattle.std.proofs.lemmas.Bool.{ltb-true, lt-ltb}
use Rattle.mix_bits.specs.laws.Numbers.{ReadsDecimals}
use Rattle.mix_bits.specs.Numbers.{decimal_number, spelled_by}

tests : (a b : Bool) (n : ℕ) → ((if a && b then Some n else None) ≡ None) ⊎ ((a ≡ true) × (b ≡ true))
tests true true n = inr (refl, refl)
tests true false n = inl refl
tests false b n = inl refl

passes : (a b : Bool) (n : ℕ) → a ≡ true → b ≡ true → (if a && b then Some n else None) ≡ Some n
passes true true n first second = refl
passes true false n first second = cc
passes false b n first second = cc

-- a text that spells a number has it
pub decimal_read : (text : List ℕ) (n : ℕ) → n < 2 ^ 32 → decimal n ≡ text → decimal_number text ≡ Some n
unfolding decimal_number
decimal_read text n small spelled =
    let value : digits_value 10 text ≡ n = ap (digits_value 10) (sym spelled) ∙ (decimal_is_IsNumeral n (omega (arith, small))).1 in
    subst (λ m. spelled_by text m ≡ Some n) (sym value)
    (passes (bytes_eq (decimal n) text) (nat_lt n (2 ^ 32)) n ((bytes_eq-Decides (decimal n) text).1 spelled) (lt-ltb n (2 ^ 32) small))

-- a text is read as no number, or as one that it spells
spells : (text : List ℕ) → (decimal_number text ≡ None) ⊎ ((n : ℕ) × (decimal_number text ≡ Some n) × (n < 2 ^ 32) × (decimal n ≡ text))
unfolding decimal_number
spells text =
    let n : ℕ = digits_value 10 text in
    elim (tests (bytes_eq (decimal n) text) (nat_lt n (2 ^ 32)) n) [
      | inl e ↦ inl e
      | inr both ↦ inr (n, passes (bytes_eq (decimal n) text) (nat_lt n (2 ^ 32)) n both.0 both.1, ltb-true n (2 ^ 32) both.1, (bytes_eq-Decides (decimal n) text).0 both.0)
    ]

-- a text that spells none has none
pub decimal_unread : (text : List ℕ) → ((n : ℕ) → n < 2 ^ 32 → decimal n ≡ text → ⊥) → decimal_number text ≡ None
decimal_unread text none = elim (spells text) [ inl e ↦ e | inr found ↦ absurd (none found.0 found.2 found.3) ]

-- what is not UTF-8 spells none
pub decimal_in_ascii : (text : List ℕ) → (IsUtf8 text → ⊥) → decimal_number text ≡ None
decimal_in_ascii text other = decimal_unread text (λ n small spelled.
    other (subst IsUtf8 spelled (IsUtf8-from_ascii (decimal n) (IsAscii-decimal n (omega (arith, small))))))

pub reads_decimals : ReadsDecimals
reads_decimals text n = (
  λ read. elim (spells text) [
    | inl none ↦ absurd (let no : None ≡ Some n = sym none ∙ read in cc)
    | inr found ↦ let same : found.0 ≡ n = (let both : Some found.0 ≡ Some n = sym found.1 ∙ read in cc) in
        (subst (λ m. m < 2 ^ 32) same found.2, ap decimal (sym same) ∙ found.3)
  ],
  λ spelled. decimal_read text n spelled.0 spelled.1,
)
