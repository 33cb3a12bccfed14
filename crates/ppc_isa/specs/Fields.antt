-- The places of a word's fields
-- (PowerPC 601 RISC Microprocessor User's Manual, chapter 10, instruction formats).
use Rattle.std.specs.Prelude.{ℕ, ◌+◌, ◌-◌, ◌/◌, ◌%◌, ◌^◌, ◌==◌, nat_lt, Bool, if◌then◌else◌}
use Rattle.mix_bits.specs.Digits.{digit_of}
use Rattle.ppc_isa.specs.declared.fields.Fields.{Fields}

-- a word taken apart
abbrev pub fields_of : ℕ → Fields
fields_of w =
    record {
      op = digit_of w 26 6;
      d = digit_of w 21 5;
      a = digit_of w 16 5;
      b = digit_of w 11 5;
      xo = digit_of w 1 10;
      last = digit_of w 0 1 == 1;
      low = digit_of w 0 16;
    }

-- OE, the top bit of the extended opcode, and AA, the last bit but one
abbrev pub oe : Fields → Bool
oe f = (f.xo / 512) == 1

abbrev pub aa : Fields → Bool
aa f = (f.low / 2 % 2) == 1

-- a signed number of `bits` bits as a pattern of 32 bits
abbrev pub displacement_of : ℕ → ℕ → ℕ
displacement_of bits n = if nat_lt n (2 ^ (bits - 1)) then n else n + (2 ^ 32 - 2 ^ bits)
