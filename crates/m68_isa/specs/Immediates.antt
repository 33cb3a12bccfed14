-- Line 0: immediates, bits, movep
-- (M68000 Family Programmer's Reference Manual, section 8, bit manipulation, MOVEP, immediate).
use Rattle.std.specs.Prelude.{ℕ, ◌+◌, ◌%◌, ◌==◌, ◌&&◌, ◌||◌, not, nat_lt, Bool, if◌then◌else◌, List, [], ◌∷◌, slice_index}
use Rattle.mix_bits.specs.declared.size.Size.TheVariants.{One}
use Rattle.m68_isa.specs.declared.instructions.ImmediateOp.{ImmediateOp}
use Rattle.m68_isa.specs.declared.instructions.ImmediateOp.TheVariants as ImmediateBy
use Rattle.m68_isa.specs.declared.instructions.LogicOp.{LogicOp}
use Rattle.m68_isa.specs.declared.instructions.LogicOp.TheVariants.{And, Or, Eor}
use Rattle.m68_isa.specs.declared.instructions.BitOp.{BitOp}
use Rattle.m68_isa.specs.declared.instructions.BitOp.TheVariants.{Btst, Bchg, Bclr, Bset}
use Rattle.m68_isa.specs.declared.instructions.Instr68.TheVariants as Instr
use Rattle.m68_isa.specs.declared.found.Found.{Found}
use Rattle.m68_isa.specs.declared.found.Found.TheVariants.{Privileged}
use Rattle.m68_isa.specs.Classes.{Class, in_class}
use Rattle.m68_isa.specs.Classes.Class.{Data, DataAlterable}
use Rattle.m68_isa.specs.First.{First, size_of, long_or_word}
use Rattle.m68_isa.specs.Operands.{extended_word, immediate_at, immediate_words, operand_at}
use Rattle.m68_isa.specs.Rows.{Row, row, words, taken}

abbrev pub logic_op : ℕ → LogicOp
logic_op upper = if upper == 0 then Or else if upper == 1 then And else Eor

abbrev pub has_logic : ℕ → Bool
has_logic upper = nat_lt upper 2 || (upper == 5)

-- the operation by bits 7 and 6
abbrev pub bit_op : ℕ → BitOp
bit_op bits = if bits == 0 then Btst else if bits == 1 then Bchg else if bits == 2 then Bclr else Bset

-- what it may work on: btst changes nothing
abbrev pub bit_class : ℕ → Class
bit_class bits = if bits == 0 then Data else DataAlterable

-- mode 7.4, in three rows the sign of a status register
abbrev pub is_immediate : First → Bool
is_immediate f = (f.mode == 7) && (f.lower == 4)

-- an operation with an immediate, whose words come first, then those of the destination
abbrev pub immediate_with : ImmediateOp → First → List ℕ → Found
immediate_with op f ws =
    let s = size_of f.size in
    let to = operand_at ws (1 + immediate_words s) s f.mode f.lower in
    taken (Instr.Immediate op s (immediate_at ws 1 s) to.ea) to

-- the number's word, then those of the destination
abbrev pub bit_by_number : First → List ℕ → Found
bit_by_number f ws =
    let to = operand_at ws 2 One f.mode f.lower in
    taken (Instr.BitByNumber (bit_op f.size) (slice_index ws 1 % 256) to.ea) to

-- a size in bits 7 and 6, and a data alterable place
abbrev pub is_sized_alterable : First → Bool
is_sized_alterable f = nat_lt f.size 3 && in_class DataAlterable f.mode f.lower

-- 0000 0000, 0010, 0100, 0110, 1010 and 1100, then ssee eeee: ori, andi, subi, addi, eori, cmpi
-- those of ori, andi and eori, then 0011 1100: to CCR; then 0111 1100: to SR
-- 0000 1000 00ee eeee to 11ee eeee: btst, bchg, bclr, bset, the number in a word
abbrev pub rows_0_even : List Row
rows_0_even =
    row (λ f. (f.upper == 0) && is_sized_alterable f) (immediate_with ImmediateBy.Ori)
    ∷ row (λ f. (f.upper == 1) && is_sized_alterable f) (immediate_with ImmediateBy.Andi)
    ∷ row (λ f. (f.upper == 2) && is_sized_alterable f) (immediate_with ImmediateBy.Subi)
    ∷ row (λ f. (f.upper == 3) && is_sized_alterable f) (immediate_with ImmediateBy.Addi)
    ∷ row (λ f. (f.upper == 5) && is_sized_alterable f) (immediate_with ImmediateBy.Eori)
    ∷ row (λ f. (f.upper == 6) && is_sized_alterable f) (immediate_with ImmediateBy.Cmpi)
    ∷ row (λ f. has_logic f.upper && (f.size == 0) && is_immediate f) (λ f ws. words 2 (Instr.ImmediateToCcr (logic_op f.upper) (immediate_at ws 1 One)))
    ∷ row (λ f. has_logic f.upper && (f.size == 1) && is_immediate f) (λ f ws. Privileged)
    ∷ row (λ f. (f.upper == 4) && in_class (bit_class f.size) f.mode f.lower && not (is_immediate f)) bit_by_number
    ∷ []

abbrev pub bit_by_register : First → List ℕ → Found
bit_by_register f ws =
    let to = operand_at ws 1 One f.mode f.lower in taken (Instr.BitByRegister (bit_op f.size) f.upper to.ea) to

-- 0000 rrr1 00ee eeee to 11ee eeee: btst, bchg, bclr, bset, the number in Dr
-- 0000 rrr1 0000 1yyy, 0100 1yyy: movep of a word, a long to Dr; 1000 1yyy, 1100 1yyy: from Dr
abbrev pub rows_0_odd : List Row
rows_0_odd =
    row (λ f. in_class (bit_class f.size) f.mode f.lower) bit_by_register
    ∷ row (λ f. f.mode == 1) (λ f ws. words 2 (Instr.Movep (long_or_word (f.size % 2)) (nat_lt 1 f.size) f.upper f.lower (extended_word ws 1)))
    ∷ []
