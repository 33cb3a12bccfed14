-- The digits of registers.
use Rattle.std.proofs.Common.{◌≡◌, ℕ, zero, suc, ◌+◌, ◌*◌, ◌/◌, ◌%◌, ◌^◌, List, [], ◌∷◌, ◌++◌, take, drop, refl, sym, ap, ◌∙◌, arith}
use Rattle.std.specs.List.{flat_map}
use Rattle.std.proofs.Math.Nat.{div-div-eq-div-mul, div-one}
use Rattle.std.proofs.lemmas.List.{drop-drop}
use Rattle.gdb_packets.proofs.Digits.{reads_registers}
use Rattle.gdb_packets.specs.Hex.{digit_of, digits, number_said}
use Rattle.gdb_answers.specs.Registers.{long_text}
use Rattle.gdb_answers.specs.laws.Answers.{RegistersReadBack, RegistersStandInOrder}

-- the two digits of a byte are two digits of the number
upper : (m : ℕ) → m % 256 / 16 ≡ m / 16 % 16
upper m = omega arith

lower : (m : ℕ) → m % 256 % 16 ≡ m % 16
lower m = omega arith

high : (n p : ℕ) → n / p % 256 / 16 ≡ n / (p * 16) % 16
high n p = upper (n / p) ∙ ap (λ k. k % 16) (div-div-eq-div-mul n p 16)

one_more_digit : (a b : ℕ) (xs ys : List ℕ) → a ≡ b → xs ≡ ys → digit_of a ∷ xs ≡ digit_of b ∷ ys
one_more_digit a b xs ys is rest = ap (λ d. digit_of d ∷ xs) is ∙ ap (λ l. digit_of b ∷ l) rest

long_is_digits : (n : ℕ) → long_text n ≡ digits 8 n
long_is_digits n =
    one_more_digit _ _ _ _ (high n (256 ^ 3))
    (one_more_digit _ _ _ _ (lower (n / 256 ^ 3))
    (one_more_digit _ _ _ _ (high n (256 ^ 2))
    (one_more_digit _ _ _ _ (lower (n / 256 ^ 2))
    (one_more_digit _ _ _ _ (high n 256)
    (one_more_digit _ _ _ _ (lower (n / 256))
    (one_more_digit _ _ _ _ (upper n)
    (one_more_digit _ _ _ _ (lower n ∙ ap (λ m. m % 16) (sym (div-one n))) refl)))))))

pub registers_read_back : RegistersReadBack
registers_read_back n small = ap number_said (long_is_digits n) ∙ reads_registers n small

pub registers_in_order : RegistersStandInOrder
registers_in_order [] k within = absurd (omega (arith, within))
registers_in_order (x ∷ xs) zero within = refl
registers_in_order (x ∷ xs) (suc k) within =
    let further : 8 * suc k ≡ 8 + 8 * k = omega arith in
    ap (λ n. take 8 (drop n (long_text x ++ flat_map long_text xs))) further
    ∙ ap (take 8) (sym (drop-drop (8 * k) 8 (long_text x ++ flat_map long_text xs)))
    ∙ registers_in_order xs k (omega (arith, within))
