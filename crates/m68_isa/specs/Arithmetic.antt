-- Lines 8, 9, B, C and D: arithmetic and logic between a register and an operand
-- (M68000 Family Programmer's Reference Manual, section 8, OR, DIVU, DIVS, SBCD; SUB, SUBA, SUBX;
-- CMP, CMPA, CMPM, EOR; AND, MULU, MULS, ABCD, EXG; ADD, ADDA, ADDX).
use Rattle.std.specs.Prelude.{ℕ, ◌==◌, ◌&&◌, ◌||◌, nat_lt, Bool, true, false, if◌then◌else◌, List, [], ◌∷◌}
use Rattle.mix_bits.specs.declared.size.Size.{Size}
use Rattle.mix_bits.specs.declared.size.Size.TheVariants.{Two}
use Rattle.m68_isa.specs.declared.ea.Ea.{Ea}
use Rattle.m68_isa.specs.declared.instructions.Exchange.{Exchange}
use Rattle.m68_isa.specs.declared.instructions.Exchange.TheVariants.{Data as DataKind, Address as AddressKind, DataAddress}
use Rattle.m68_isa.specs.declared.instructions.Instr68.{Instr68}
use Rattle.m68_isa.specs.declared.instructions.Instr68.TheVariants as Instr
use Rattle.m68_isa.specs.declared.found.Found.{Found}
use Rattle.m68_isa.specs.Classes.{in_class, is_source}
use Rattle.m68_isa.specs.Classes.Class.{Any, Data, DataAlterable, MemoryAlterable}
use Rattle.m68_isa.specs.First.{First, size_of, long_or_word}
use Rattle.m68_isa.specs.Rows.{Row, row, words, one, sized}

-- an instruction at the size of bit 8, long or word
abbrev pub at_long_or_word : (Size → Ea → Instr68) → First → List ℕ → Found
at_long_or_word make f ws = one (make (long_or_word f.bit8)) (long_or_word f.bit8) f ws

abbrev pub is_data : First → Bool
is_data f = in_class Data f.mode f.lower

-- any place, but no address register at byte size
abbrev pub is_any : First → Bool
is_any f = is_source Any (size_of f.size) f.mode f.lower

-- from an operand to Dr: bit 8 is clear
abbrev pub is_to_register : First → Bool
is_to_register f = nat_lt f.size 3 && (f.bit8 == 0)

-- from Dr to memory: bit 8 is set
abbrev pub is_to_memory : First → Bool
is_to_memory f = nat_lt f.size 3 && (f.bit8 == 1) && in_class MemoryAlterable f.mode f.lower

-- between two data registers or two places before address registers
abbrev pub is_pair : First → Bool
is_pair f = (f.bit8 == 1) && nat_lt f.mode 2

-- 1000 rrr0 ssee eeee, 1000 rrr1 ssee eeee: or
-- 1000 rrr0 11ee eeee: divu; 1000 rrr1 11ee eeee: divs
-- 1000 rrr1 0000 0yyy, 1000 rrr1 0000 1yyy: sbcd
abbrev pub rows_8 : List Row
rows_8 =
    row (λ f. is_to_register f && is_data f) (λ f. sized (λ s e. Instr.Or s false f.upper e) f)
    ∷ row is_to_memory (λ f. sized (λ s e. Instr.Or s true f.upper e) f)
    ∷ row (λ f. (f.size == 3) && (f.bit8 == 0) && is_data f) (λ f. one (λ e. Instr.Div false e f.upper) Two f)
    ∷ row (λ f. (f.size == 3) && (f.bit8 == 1) && is_data f) (λ f. one (λ e. Instr.Div true e f.upper) Two f)
    ∷ row (λ f. (f.size == 0) && is_pair f) (λ f ws. words 1 (Instr.Sbcd (f.mode == 1) f.lower f.upper))
    ∷ []

-- 1001 rrr0 ssee eeee, 1001 rrr1 ssee eeee: sub
-- 1001 rrrz 11ee eeee: suba
-- 1001 rrr1 ss00 0yyy, 1001 rrr1 ss00 1yyy: subx
abbrev pub rows_9 : List Row
rows_9 =
    row (λ f. is_to_register f && is_any f) (λ f. sized (λ s e. Instr.Sub s false f.upper e) f)
    ∷ row is_to_memory (λ f. sized (λ s e. Instr.Sub s true f.upper e) f)
    ∷ row (λ f. (f.size == 3) && is_any f) (λ f. at_long_or_word (λ s e. Instr.Suba s e f.upper) f)
    ∷ row (λ f. nat_lt f.size 3 && is_pair f) (λ f ws. words 1 (Instr.Subx (size_of f.size) (f.mode == 1) f.lower f.upper))
    ∷ []

-- 1011 rrr0 ssee eeee: cmp; 1011 rrrz 11ee eeee: cmpa; 1011 rrr1 ssee eeee: eor
-- 1011 rrr1 ss00 1yyy: cmpm
abbrev pub rows_B : List Row
rows_B =
    row (λ f. is_to_register f && is_any f) (λ f. sized (λ s e. Instr.Cmp s e f.upper) f)
    ∷ row (λ f. (f.size == 3) && is_any f) (λ f. at_long_or_word (λ s e. Instr.Cmpa s e f.upper) f)
    ∷ row (λ f. nat_lt f.size 3 && (f.bit8 == 1) && in_class DataAlterable f.mode f.lower) (λ f. sized (λ s e. Instr.Eor s f.upper e) f)
    ∷ row (λ f. nat_lt f.size 3 && (f.bit8 == 1) && (f.mode == 1)) (λ f ws. words 1 (Instr.Cmpm (size_of f.size) f.lower f.upper))
    ∷ []

-- exg's three forms in bits 8 to 3: 1 01 000 of data registers, 1 01 001 of address registers,
-- 1 10 001 of a data and an address register
abbrev pub is_exchange : First → Bool
is_exchange f = (f.bit8 == 1) && (((f.size == 1) && nat_lt f.mode 2) || ((f.size == 2) && (f.mode == 1)))

abbrev pub exchange : First → Exchange
exchange f = if f.size == 2 then DataAddress else if f.mode == 1 then AddressKind else DataKind

-- 1100 rrr0 ssee eeee, 1100 rrr1 ssee eeee: and
-- 1100 rrr0 11ee eeee: mulu; 1100 rrr1 11ee eeee: muls
-- 1100 rrr1 0000 0yyy, 1100 rrr1 0000 1yyy: abcd
-- 1100 rrr1 0100 0yyy, 1100 rrr1 0100 1yyy, 1100 rrr1 1000 1yyy: exg
abbrev pub rows_C : List Row
rows_C =
    row (λ f. is_to_register f && is_data f) (λ f. sized (λ s e. Instr.And s false f.upper e) f)
    ∷ row is_to_memory (λ f. sized (λ s e. Instr.And s true f.upper e) f)
    ∷ row (λ f. (f.size == 3) && (f.bit8 == 0) && is_data f) (λ f. one (λ e. Instr.Mul false e f.upper) Two f)
    ∷ row (λ f. (f.size == 3) && (f.bit8 == 1) && is_data f) (λ f. one (λ e. Instr.Mul true e f.upper) Two f)
    ∷ row (λ f. (f.size == 0) && is_pair f) (λ f ws. words 1 (Instr.Abcd (f.mode == 1) f.lower f.upper))
    ∷ row is_exchange (λ f ws. words 1 (Instr.Exg (exchange f) f.upper f.lower))
    ∷ []

-- 1101 rrr0 ssee eeee, 1101 rrr1 ssee eeee: add
-- 1101 rrrz 11ee eeee: adda
-- 1101 rrr1 ss00 0yyy, 1101 rrr1 ss00 1yyy: addx
abbrev pub rows_D : List Row
rows_D =
    row (λ f. is_to_register f && is_any f) (λ f. sized (λ s e. Instr.Add s false f.upper e) f)
    ∷ row is_to_memory (λ f. sized (λ s e. Instr.Add s true f.upper e) f)
    ∷ row (λ f. (f.size == 3) && is_any f) (λ f. at_long_or_word (λ s e. Instr.Adda s e f.upper) f)
    ∷ row (λ f. nat_lt f.size 3 && is_pair f) (λ f ws. words 1 (Instr.Addx (size_of f.size) (f.mode == 1) f.lower f.upper))
    ∷ []
