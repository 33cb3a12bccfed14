-- Sums and differences: carry and overflow compare sums without a bound
-- (M68000 Family Programmer's Reference Manual, ADD, ADDX, SUB, SUBX and CMP in section 4).
use Rattle.std.specs.Prelude.{ℕ, ℤ, ◌+◌, ◌-◌, ◌%◌, ◌==◌, ◌&&◌, pos, ◌+ℤ◌, ◌-ℤ◌, nat_le, nat_lt, Bool, false}
use Rattle.std.specs.Int.{from_bool}
use Rattle.mix_bits.specs.Sizes.{modulus, signed_of, truncated}
use Rattle.mix_bits.specs.declared.size.Size.{Size}
use Rattle.m68_isa.specs.declared.registers.Ccr.{Ccr}
use Rattle.m68_alu.specs.declared.sums.Out.{Out}
use Rattle.mix_bits.specs.Signs.{is_negative, leaves}

-- d + s, with the carry that comes in added to s
abbrev pub total : ℕ → ℕ → Bool → ℕ
total d s carry = d + (s + from_bool carry)

abbrev pub signed_total : ℤ → ℤ → Bool → ℤ
signed_total d s carry = d +ℤ (s +ℤ pos (from_bool carry))

abbrev pub signed_difference : ℤ → ℤ → Bool → ℤ
signed_difference d s borrow = d -ℤ (s +ℤ pos (from_bool borrow))

-- the sum of values of a size
abbrev pub sum_value : Size → ℕ → ℕ → Bool → ℕ
sum_value size d s carry = total d s carry % modulus size

abbrev pub sum_of : Size → ℕ → ℕ → Bool → Out
sum_of size d s carry =
    record {
      value = sum_value size d s carry;
      ccr = record {
        x = nat_le (modulus size) (total d s carry);
        n = is_negative size (sum_value size d s carry);
        z = sum_value size d s carry == 0;
        v = leaves size (signed_total (signed_of d size) (signed_of s size) carry);
        c = nat_le (modulus size) (total d s carry);
      };
    }

-- the difference of values of a size
abbrev pub difference_value : Size → ℕ → ℕ → Bool → ℕ
difference_value size d s borrow = (d + modulus size - (s + from_bool borrow)) % modulus size

abbrev pub difference_of : Size → ℕ → ℕ → Bool → Out
difference_of size d s borrow =
    record {
      value = difference_value size d s borrow;
      ccr = record {
        x = nat_lt d (s + from_bool borrow);
        n = is_negative size (difference_value size d s borrow);
        z = difference_value size d s borrow == 0;
        v = leaves size (signed_difference (signed_of d size) (signed_of s size) borrow);
        c = nat_lt d (s + from_bool borrow);
      };
    }

-- Z is only cleared, so that it tells of all parts of a long number
abbrev pub with_old_zero : Out → Ccr → Out
with_old_zero out old = record out { ccr = record out.ccr { z = old.z && out.ccr.z } }

-- X stays
abbrev pub with_old_extend : Out → Ccr → Out
with_old_extend out old = record out { ccr = record out.ccr { x = old.x } }

-- destination + source, and with X
abbrev pub sum : Size → ℕ → ℕ → Out
sum size d s = sum_of size (truncated d size) (truncated s size) false

abbrev pub sum_with_x : Size → Ccr → ℕ → ℕ → Out
sum_with_x size old d s = with_old_zero (sum_of size (truncated d size) (truncated s size) old.x) old

-- destination - source, with X, and in a comparison, which leaves X
abbrev pub difference : Size → ℕ → ℕ → Out
difference size d s = difference_of size (truncated d size) (truncated s size) false

abbrev pub difference_with_x : Size → Ccr → ℕ → ℕ → Out
difference_with_x size old d s = with_old_zero (difference_of size (truncated d size) (truncated s size) old.x) old

abbrev pub compared : Size → Ccr → ℕ → ℕ → Out
compared size old d s = with_old_extend (difference size d s) old
