-- What the integer instructions compute, with the carry CA and the overflow OV
-- (PowerPC 601 RISC Microprocessor User's Manual, chapter 10, the instructions of these names).
use Rattle.std.specs.Prelude.{ℕ, ℤ, ◌+◌, ◌-◌, ◌*◌, ◌/◌, ◌%◌, ◌^◌, ◌==◌, pos, ◌+ℤ◌, ◌*ℤ◌, nat_le, Bool, true, false, not, ◌&&◌, ◌||◌, if◌then◌else◌, int_div}
use Rattle.std.specs.Int.{cast_unsigned, from_bool, int_shr, w32, w64}
use Rattle.ppc_alu.specs.declared.arith.Arith.{Arith}
use Rattle.ppc_alu.specs.Words.{is_negative, leaves_word, signed}

-- the sum of two words and a carry
abbrev pub unsigned_sum : ℕ → ℕ → Bool → ℕ
unsigned_sum a b carry = a + b + from_bool carry

abbrev pub signed_sum : ℕ → ℕ → Bool → ℤ
signed_sum a b carry = (signed a +ℤ signed b) +ℤ pos (from_bool carry)

abbrev pub added : ℕ → ℕ → Bool → Arith
added a b carry =
    record {
      value = unsigned_sum a b carry % 2 ^ 32;
      ca = nat_le (2 ^ 32) (unsigned_sum a b carry);
      ov = leaves_word (signed_sum a b carry);
    }

-- the low word of a product, which is the same for signed and unsigned words
abbrev pub multiplied : ℕ → ℕ → Arith
multiplied a b = record { value = (a * b) % 2 ^ 32; ca = false; ov = leaves_word (signed a *ℤ signed b) }

-- the high word of a product
abbrev pub high_product : Bool → ℕ → ℕ → ℕ
high_product true a b = cast_unsigned w64 (signed a *ℤ signed b) / 2 ^ 32
high_product false a b = a * b / 2 ^ 32

-- no quotient: the divisor is 0, or the signed quotient is no word
abbrev pub has_no_quotient : Bool → ℕ → ℕ → Bool
has_no_quotient is_signed a b = (b == 0) || (is_signed && (a == 2 ^ 31) && (b == 2 ^ 32 - 1))

abbrev pub quotient : Bool → ℕ → ℕ → ℕ
quotient true a b = cast_unsigned w32 (int_div (signed a) (signed b))
quotient false a b = a / b

-- the quotient, rounded toward zero; where there is none, the value is this project's own choice
abbrev pub divided : Bool → ℕ → ℕ → Arith
divided is_signed a b =
    if has_no_quotient is_signed a b then record { value = 0; ca = false; ov = true } else record { value = quotient is_signed a b; ca = false; ov = false }

-- an arithmetic shift right: the signed number divided by a power of two, rounded down; the carry is
-- that of a negative number of which a one was shifted out
abbrev pub shifted : ℕ → ℕ → Arith
shifted v n =
    record {
      value = cast_unsigned w32 (int_shr (signed v) n);
      ca = is_negative v && not (v % 2 ^ n == 0);
      ov = false;
    }
