-- Products and quotients of words and of longs, by unbounded integers
-- (M68000 Family Programmer's Reference Manual, MULS, MULU, DIVS, DIVSL, DIVU and DIVUL in section 4).
use Rattle.std.specs.Prelude.{ℕ, ℤ, ◌+◌, ◌-◌, ◌*◌, ◌/◌, ◌%◌, ◌^◌, ◌==◌, ◌*ℤ◌, pos, unsigned_abs, nat_le, int_lt, int_le, int_div, int_rem, Bool, true, false, ◌||◌, if◌then◌else◌, Option, None, Some}
use Rattle.std.specs.Int.{int_rem_euclid}
use Rattle.mix_bits.specs.Signs.{leaves_half}
use Rattle.mix_bits.specs.Sizes.{signed_below}
use Rattle.mix_bits.specs.declared.size.Size.TheVariants.{Two, Four}
use Rattle.m68_isa.specs.declared.registers.Ccr.{Ccr}
use Rattle.m68_alu.specs.declared.sums.Out.{Out}
use Rattle.m68_alu.specs.declared.products.Wide.{Wide}
use Rattle.m68_alu.specs.declared.quotients.Quotient.{Quotient}
use Rattle.m68_alu.specs.declared.quotients.Quotient.TheVariants.{ByZero, Overflow, Done}
use Rattle.m68_alu.specs.declared.quotients.LongQuotient.{LongQuotient}
use Rattle.m68_alu.specs.declared.quotients.LongQuotient.TheVariants.{ByZero as NoDivisor, Overflow as Leaves, Done as Divided}
use Rattle.m68_alu.specs.Sizes.{result_flags}

-- a number modulo n, from 0 on
abbrev pub residue : ℤ → ℕ → ℕ
residue z n = unsigned_abs (int_rem_euclid z (pos n))

-- the integer that a value of so many bits is, with or without a sign
abbrev pub integer : Bool → ℕ → ℕ → ℤ
integer true bits v = signed_below (2 ^ bits) (v % 2 ^ bits)
integer false bits v = pos (v % 2 ^ bits)

-- the low bits of an integer
abbrev pub low_bits : ℕ → ℤ → ℕ
low_bits bits z = residue z (2 ^ bits)

-- whether an integer is no value of so many bits
abbrev pub leaves_bits : Bool → ℕ → ℤ → Bool
leaves_bits true bits z = leaves_half (2 ^ (bits - 1)) z
leaves_bits false bits z = int_lt z (pos 0) || int_le (pos (2 ^ bits)) z

-- the product of two values of so many bits
abbrev pub product : Bool → ℕ → ℕ → ℕ → ℤ
product signed bits a b = integer signed bits a *ℤ integer signed bits b

-- N and Z by a result of so many bits, V as told, C cleared, X as it was
abbrev pub flags_of_bits : ℕ → ℕ → Bool → Ccr → Ccr
flags_of_bits bits value v old = record { x = old.x; n = nat_le (2 ^ (bits - 1)) value; z = value == 0; v = v; c = false }

-- two words give a long
abbrev pub word_product : ℕ → Ccr → Out
word_product value old = record { value = value; ccr = result_flags Four value old }

abbrev pub multiplied : Bool → ℕ → ℕ → Ccr → Out
multiplied signed a b old = word_product (low_bits 32 (product signed 16 a b)) old

-- two longs give 64 bits, whose flags tell of all of them where the product is wide; else they tell of the low
-- long, and whether the product leaves it
abbrev pub long_product : Bool → Bool → ℕ → Ccr → Wide
long_product wide leaves value old =
    record {
      low = value % 2 ^ 32;
      high = value / 2 ^ 32;
      ccr = if wide then flags_of_bits 64 value false old else flags_of_bits 32 (value % 2 ^ 32) leaves old;
    }

abbrev pub long_multiplied : Bool → Bool → ℕ → ℕ → Ccr → Wide
long_multiplied signed wide a b old =
    long_product wide (leaves_bits signed 32 (product signed 32 a b)) (low_bits 64 (product signed 32 a b)) old

-- V set and C cleared; that N and Z stay is this project's own
abbrev pub overflowed : Ccr → Ccr
overflowed old = record old { v = true; c = false }

-- what is answered where a quotient leaves so many bits, or else by these bits of it and of its remainder: it is
-- rounded toward zero, and the remainder has the dividend's sign
abbrev pub quotient_in : {T : Type 0} → Bool → ℕ → ℤ → ℤ → T → (ℕ → ℕ → T) → T
quotient_in signed bits a b left done =
    if leaves_bits signed bits (int_div a b) then left else done (low_bits bits (int_div a b)) (low_bits bits (int_rem a b))

-- a long by a word: the quotient in the low word and the remainder in the high one; the flags tell of the quotient
abbrev pub packed : Ccr → ℕ → ℕ → Quotient
packed old quotient remainder = Done (record { value = remainder * 2 ^ 16 + quotient; ccr = result_flags Two quotient old })

abbrev pub divided : Bool → ℕ → ℕ → Ccr → Quotient
divided signed a b old =
    if b % 2 ^ 16 == 0 then ByZero
    else quotient_in signed 16 (integer signed 32 a) (integer signed 16 b) (Overflow (overflowed old)) (packed old)

-- 64 bits by a long: the quotient and the remainder, where the quotient is a long
abbrev pub both : ℕ → ℕ → Option (ℕ × ℕ)
both quotient remainder = Some (quotient, remainder)

abbrev pub long_quotient : Bool → ℕ → ℕ → Option (ℕ × ℕ)
long_quotient signed dividend by = quotient_in signed 32 (integer signed 64 dividend) (integer signed 32 by) None both

-- the quotient low and the remainder high; the flags tell of the quotient
abbrev pub paired : Ccr → ℕ → ℕ → LongQuotient
paired old quotient remainder = Divided (record { low = quotient; high = remainder; ccr = result_flags Four quotient old })

abbrev pub long_answer : Ccr → Option (ℕ × ℕ) → LongQuotient
long_answer old None = Leaves (overflowed old)
long_answer old (Some (quotient, remainder)) = paired old quotient remainder

abbrev pub long_divided : Bool → ℕ → ℕ → ℕ → Ccr → LongQuotient
long_divided signed high low by old =
    if by == 0 then NoDivisor else long_answer old (long_quotient signed (high * 2 ^ 32 + low) by)
