-- Decimal arithmetic of two digits in a byte. What it gives for digits above 9, and N and V, are this
-- project's own (M68000 Family Programmer's Reference Manual, ABCD and SBCD in section 4).
use Rattle.std.specs.Prelude.{ℕ, ℤ, ◌+◌, ◌*◌, ◌/◌, ◌%◌, ◌==◌, ◌&&◌, pos, ◌+ℤ◌, ◌-ℤ◌, nat_lt, int_lt, Bool, false, if◌then◌else◌}
use Rattle.std.specs.Int.{from_bool}
use Rattle.m68_isa.specs.declared.registers.Ccr.{Ccr}
use Rattle.m68_alu.specs.declared.sums.Out.{Out}
use Rattle.m68_alu.specs.Products.{residue}

abbrev pub low_digit : ℕ → ℕ
low_digit v = v % 16

-- the high digit of a byte, where it stands
abbrev pub high_digit : ℕ → ℕ
high_digit v = v % 256 / 16 * 16

-- the sum of the low digits, brought back to a digit and a carry
abbrev pub low_sum : ℕ → ℕ → Bool → ℕ
low_sum d s x = let l = low_digit d + low_digit s + from_bool x in if nat_lt 9 l then l + 6 else l

abbrev pub decimal_sum : ℕ → ℕ → Bool → ℕ
decimal_sum d s x = high_digit d + high_digit s + low_sum d s x

abbrev pub low_difference : ℕ → ℕ → Bool → ℤ
low_difference d s x =
    let l = pos (low_digit d) -ℤ pos (low_digit s + from_bool x) in if int_lt l (pos 0) then (l -ℤ pos 6) else l

abbrev pub decimal_difference : ℕ → ℕ → Bool → ℤ
decimal_difference d s x = (pos (high_digit d) -ℤ pos (high_digit s)) +ℤ low_difference d s x

-- X and C are the carry, and Z is only cleared
abbrev pub decimal_out : ℕ → Bool → Ccr → Out
decimal_out value carry old =
    record {
      value = value;
      ccr = record { x = carry; n = false; z = old.z && (value == 0); v = false; c = carry };
    }

abbrev pub decimal_added : ℕ → ℕ → Ccr → Out
decimal_added d s old =
    let t = decimal_sum d s old.x in
    if nat_lt 0x9F t then decimal_out ((t + 0x60) % 256) (nat_lt 0x9F t) old else decimal_out (t % 256) (nat_lt 0x9F t) old

abbrev pub decimal_subtracted : ℕ → ℕ → Ccr → Out
decimal_subtracted d s old =
    let t = decimal_difference d s old.x in
    if int_lt t (pos 0) then decimal_out (residue (t -ℤ pos 0x60) 256) (int_lt t (pos 0)) old
    else decimal_out (residue t 256) (int_lt t (pos 0)) old
