-- What is sign extended stays so: of a byte computed over all bytes.
use Rattle.std.proofs.Common.{ℕ, ◌≡◌, ◌+◌, ◌^◌, ◌%◌, ◌<◌, Bool, true, false, ◌==◌, nat_lt, if◌then◌else◌, refl, ap, ◌∙◌, subst, arith, rules}
use Rattle.std.specs.Int.{cast_unsigned, w32}
use Rattle.std.proofs.Math.Nat.{mod-mod}
use Rattle.std.proofs.lemmas.Bool.{eqb-true}
use Rattle.std.proofs.lemmas.Nat.{mod_below}
use Rattle.mix_bits.specs.laws.Ranges.{every}
use Rattle.mix_bits.proofs.Every.{every_at}
use Rattle.mix_bits.specs.Sizes.{sign_extended, signed_below}
use Rattle.mix_bits.specs.declared.size.Size.TheVariants.{One, Two}

-- a word's sign
word_signed : (w : ℕ) → w < 65536 → sign_extended w Two ≡ (if nat_lt w 32768 then w else w + 4294901760)
word_signed w below = search rules

low_word : (b : Bool) (w : ℕ) → (if b then w else w + 4294901760) % 65536 ≡ w % 65536
low_word true w = refl
low_word false w = omega arith

pub word_twice : (w : ℕ) → w < 2 ^ 16 → sign_extended (sign_extended w Two) Two ≡ sign_extended w Two
word_twice w below = ap (λ t. cast_unsigned w32 (signed_below 65536 t)) (ap (λ v. v % 65536) (word_signed w below) ∙ low_word (nat_lt w 32768) w)

-- a byte alone decides
low_alone : (w : ℕ) → sign_extended (w % 256) One ≡ sign_extended w One
low_alone w = ap (λ t. cast_unsigned w32 (signed_below 256 t)) (mod-mod w 256)

bytes_stay : every 8 0 (λ b. sign_extended (sign_extended b One) One == sign_extended b One) ≡ true
bytes_stay = refl

byte_stays : (b : ℕ) → b < 2 ^ 8 → sign_extended (sign_extended b One) One ≡ sign_extended b One
byte_stays b below = eqb-true _ _ (every_at 8 (λ v. sign_extended (sign_extended v One) One == sign_extended v One) b bytes_stay below)

pub byte_twice : (w : ℕ) → w < 2 ^ 16 → sign_extended (sign_extended w One) One ≡ sign_extended w One
byte_twice w below = subst (λ v. sign_extended v One ≡ v) (low_alone w) (byte_stays (w % 256) (mod_below w 256 (omega arith)))

bytes_are_words : every 8 0 (λ b. sign_extended (sign_extended b One) Two == sign_extended b One) ≡ true
bytes_are_words = refl

byte_is_word : (b : ℕ) → b < 2 ^ 8 → sign_extended (sign_extended b One) Two ≡ sign_extended b One
byte_is_word b below = eqb-true _ _ (every_at 8 (λ v. sign_extended (sign_extended v One) Two == sign_extended v One) b bytes_are_words below)

pub byte_as_word : (w : ℕ) → w < 2 ^ 16 → sign_extended (sign_extended w One) Two ≡ sign_extended w One
byte_as_word w below = subst (λ v. sign_extended v Two ≡ v) (low_alone w) (byte_is_word (w % 256) (mod_below w 256 (omega arith)))
