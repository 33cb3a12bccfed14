-- The condition register: eight fields of four bits, field 0 and bit 0 the most significant ones
-- (PowerPC 601 RISC Microprocessor User's Manual, chapter 2, CR).
use Rattle.std.specs.Prelude.{ℕ, ◌-◌, ◌*◌, ◌==◌, Bool}
use Rattle.std.specs.Int.{from_bool}
use Rattle.mix_bits.specs.Digits.{digit_of, digit_replaced}

abbrev pub bit_of : ℕ → ℕ → Bool
bit_of cr bit = digit_of cr (31 - bit) 1 == 1

abbrev pub field_of : ℕ → ℕ → ℕ
field_of cr field = digit_of cr (28 - 4 * field) 4

abbrev pub with_bit : ℕ → ℕ → Bool → ℕ
with_bit cr bit on = digit_replaced cr (31 - bit) 1 (from_bool on)

abbrev pub with_field : ℕ → ℕ → ℕ → ℕ
with_field cr field bits = digit_replaced cr (28 - 4 * field) 4 bits
