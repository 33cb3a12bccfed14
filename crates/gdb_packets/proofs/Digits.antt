-- Hexadecimal digits are read as what they were written for.
use Rattle.std.proofs.Common.{◌≡◌, ℕ, zero, suc, ◌+◌, ◌*◌, ◌/◌, ◌%◌, ◌^◌, ◌<◌, ◌≤◌, ◌==◌, nat_lt, List, [], ◌∷◌, Bool, true, false, Some, None, if◌then◌else◌, refl, sym, ap, ◌∙◌, arith}
use Rattle.std.specs.List.{flat_map}
use Rattle.std.proofs.Math.Nat.{div-div-eq-div-mul, div-eq_of_lt, div-le_self, div-one, mod-lt, pow-suc}
use Rattle.std.proofs.lemmas.Bool.{eqb-true}
use Rattle.std.proofs.lemmas.Grind.{common_steps}
use Rattle.gdb_packets.specs.Hex.{bytes_said, digit_of, digits, joined, number_from, one_before, number_said, number_text, one_more, pair_of, shortened, value_of}
use Rattle.gdb_packets.specs.laws.Digits.{ReadsBytes, ReadsDigits, ReadsMemory, ReadsNumbers, ReadsRegisters}

pub reads_digits : ReadsDigits
reads_digits n small = grind (arith, common_steps)

pub reads_bytes : ReadsBytes
reads_bytes b small =
    ap (λ h. joined h (value_of (digit_of (b % 16)))) (reads_digits (b / 16) (omega arith))
    ∙ ap (joined (Some (b / 16))) (reads_digits (b % 16) (mod-lt b (omega arith)))
    ∙ ap Some (omega arith)

passes : (a b x : ℕ) → a < b → (if nat_lt a b then Some x else None) ≡ Some x
passes a b x h = grind (arith, common_steps)

reads_from : (k n : ℕ) → n < 2 ^ 32 → number_from (Some (n / 16 ^ k)) (digits k n) ≡ Some n
reads_from zero n small = ap Some (div-one n)
reads_from (suc k) n small =
    let m : ℕ = n / 16 ^ k in
    let least : m ≤ n = div-le_self n (16 ^ k) in
    let above : n / 16 ^ suc k ≡ m / 16 = ap (λ q. n / q) (pow-suc 16 k) ∙ sym (div-div-eq-div-mul n (16 ^ k) 16) in
    let whole : 16 * (m / 16) + m % 16 ≡ m = omega arith in
    let step : one_more (n / 16 ^ suc k) (value_of (digit_of (m % 16))) ≡ Some m =
    ap (one_more (n / 16 ^ suc k)) (reads_digits (m % 16) (mod-lt m (omega arith)))
    ∙ ap (λ q. one_more q (Some (m % 16))) above
    ∙ passes (m / 16) (2 ^ 28) (16 * (m / 16) + m % 16) (omega arith)
    ∙ ap Some whole in
    ap (λ o. number_from o (digits k n)) step ∙ reads_from k n small

pub reads_registers : ReadsRegisters
reads_registers n small = ap (λ q. number_from (Some q) (digits 8 n)) (sym (div-eq_of_lt small)) ∙ reads_from 8 n small

zero_first : (t : Bool) (d : ℕ) (ds : List ℕ) → t ≡ (d == 48) → number_said (shortened ds) ≡ number_from (Some 0) ds
    → number_said (if t then shortened ds else d ∷ ds) ≡ number_from (Some 0) (d ∷ ds)
zero_first true d ds h same = same ∙ ap (λ c. number_from (one_more 0 (value_of c)) ds) (sym (eqb-true d 48 (sym h)))
zero_first false d ds h same = refl

short_said : (ds : List ℕ) → number_said (shortened ds) ≡ number_from (Some 0) ds
short_said [] = refl
short_said (d ∷ ds) = zero_first (d == 48) d ds refl (short_said ds)

pub reads_numbers : ReadsNumbers
unfolding number_text
reads_numbers n small = short_said (digits 8 n) ∙ reads_registers n small

pub reads_memory : ReadsMemory
reads_memory [] all = refl
reads_memory (b ∷ bytes) all =
    ap (λ o. one_before o (bytes_said (flat_map pair_of bytes))) (reads_bytes b all.0) ∙ ap (one_before (Some b)) (reads_memory bytes all.1)
