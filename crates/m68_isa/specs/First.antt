-- The parts of an instruction's first word
-- (M68000 Family Programmer's Reference Manual, section 8).
use Rattle.std.specs.Prelude.{ℕ, ◌+◌, ◌*◌, ◌==◌, if◌then◌else◌}
use Rattle.mix_bits.specs.Digits.{digit_of}
use Rattle.mix_bits.specs.declared.size.Size.{Size}
use Rattle.mix_bits.specs.declared.size.Size.TheVariants.{One, Two, Four}

pub record First : Type 0 where
  -- bits 15 to 12
  pub line : ℕ
  -- bits 11 to 9, mostly a register
  pub upper : ℕ
  pub bit8 : ℕ
  -- bits 7 and 6, mostly a size
  pub size : ℕ
  -- bits 5 to 3, mostly a mode
  pub mode : ℕ
  -- bits 2 to 0, mostly a register
  pub lower : ℕ

abbrev pub first_of : ℕ → First
first_of w = record { line = digit_of w 12 4; upper = digit_of w 9 3; bit8 = digit_of w 8 1; size = digit_of w 6 2; mode = digit_of w 3 3; lower = digit_of w 0 3 }

-- 00 byte, 01 word, 10 long
abbrev pub size_of : ℕ → Size
size_of bits = if bits == 0 then One else if bits == 1 then Two else Four

abbrev pub long_or_word : ℕ → Size
long_or_word bit = if bit == 0 then Two else Four

-- bits 7 to 0
abbrev pub low_byte : First → ℕ
low_byte f = f.size * 64 + f.mode * 8 + f.lower

-- bits 11 to 8
abbrev pub condition_of : First → ℕ
condition_of f = f.upper * 2 + f.bit8

-- 0 stands for 8
abbrev pub one_to_eight : ℕ → ℕ
one_to_eight bits = if bits == 0 then 8 else bits
