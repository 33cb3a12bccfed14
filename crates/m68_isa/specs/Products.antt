-- Long multiplication and division, whose second word names their registers
-- (M68000 Family Programmer's Reference Manual, section 4, MULS, MULU, DIVS, DIVU).
use Rattle.std.specs.Prelude.{ℕ, ◌==◌, ◌&&◌, Bool, List, slice_index}
use Rattle.mix_bits.specs.Digits.{digit_of}
use Rattle.mix_bits.specs.declared.size.Size.TheVariants.{Four}
use Rattle.m68_isa.specs.declared.ea.Ea.{Ea}
use Rattle.m68_isa.specs.declared.instructions.Instr68.{Instr68}
use Rattle.m68_isa.specs.declared.found.Found.{Found}
use Rattle.m68_isa.specs.declared.found.Found.TheVariants.{Made}
use Rattle.m68_isa.specs.First.{First}
use Rattle.m68_isa.specs.Operands.{operand_at}

-- bits 14 to 12: the register of the product's or the dividend's low 32 bits
abbrev pub low_of : ℕ → ℕ
low_of w = digit_of w 12 3

-- bits 2 to 0: the register of the high ones, or of the remainder
abbrev pub high_of : ℕ → ℕ
high_of w = digit_of w 0 3

abbrev pub is_signed : ℕ → Bool
is_signed w = digit_of w 11 1 == 1

-- whether the product or the dividend has 64 bits
abbrev pub is_wide : ℕ → Bool
is_wide w = digit_of w 10 1 == 1

-- bits 15 and 9 to 3 are zero
abbrev pub is_register_word : ℕ → Bool
is_register_word w = (digit_of w 15 1 == 0) && (digit_of w 3 7 == 0)

-- this word, then those of the source
abbrev pub by_registers : (Bool → Bool → Ea → ℕ → ℕ → Instr68) → First → List ℕ → Found
by_registers make f ws =
    let w = slice_index ws 1 in
    let by = operand_at ws 2 Four f.mode f.lower in
    Made (make (is_signed w) (is_wide w) by.ea (high_of w) (low_of w)) by.next (is_register_word w && by.good)
