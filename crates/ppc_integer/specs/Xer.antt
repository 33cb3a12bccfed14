-- The fixed-point exception register: SO, OV and CA in its three top bits, and the length of a string in
-- its seven low ones (PowerPC 601 RISC Microprocessor User's Manual, chapter 2, XER).
use Rattle.std.specs.Prelude.{ℕ, ◌+◌, ◌*◌, ◌^◌, ◌==◌, Bool, if◌then◌else◌}
use Rattle.std.specs.Int.{from_bool}
use Rattle.mix_bits.specs.Digits.{digit_of, digit_replaced}

abbrev pub so_of : ℕ → Bool
so_of xer = digit_of xer 31 1 == 1

abbrev pub ca_of : ℕ → Bool
ca_of xer = digit_of xer 29 1 == 1

abbrev pub string_length_of : ℕ → ℕ
string_length_of xer = digit_of xer 0 7

abbrev pub with_so : ℕ → Bool → ℕ
with_so xer on = digit_replaced xer 31 1 (from_bool on)

abbrev pub with_ov : ℕ → Bool → ℕ
with_ov xer on = digit_replaced xer 30 1 (from_bool on)

abbrev pub with_ca : ℕ → Bool → ℕ
with_ca xer on = digit_replaced xer 29 1 (from_bool on)

-- OV is as the result has it; with it SO is set, which only mtspr and mcrxr clear
abbrev pub with_overflow : ℕ → Bool → ℕ
with_overflow xer on = if on then with_so (with_ov xer on) on else with_ov xer on

-- the bits that the register has; the others are 0, which is this project's own choice
abbrev pub kept_in_xer : ℕ → ℕ
kept_in_xer word = digit_of word 29 3 * 2 ^ 29 + digit_of word 0 7

-- the top four bits, as a field of the condition register takes them, and the register without them
abbrev pub top_of : ℕ → ℕ
top_of xer = digit_of xer 28 4

abbrev pub without_top : ℕ → ℕ
without_top xer = digit_replaced xer 28 4 0
