-- Lines 5, 6 and 7: quick numbers, conditions, branches
-- (M68000 Family Programmer's Reference Manual, section 8, ADDQ, SUBQ, Scc, DBcc; Bcc, BSR, BRA;
-- MOVEQ).
use Rattle.std.specs.Prelude.{ℕ, ◌==◌, ◌&&◌, ◌||◌, not, nat_lt, Bool, List, [], ◌∷◌}
use Rattle.mix_bits.specs.Sizes.{sign_extended}
use Rattle.mix_bits.specs.declared.size.Size.TheVariants.{One}
use Rattle.m68_isa.specs.declared.instructions.QuickOp.TheVariants as QuickBy
use Rattle.m68_isa.specs.declared.instructions.Instr68.TheVariants.{Quick, Scc, Dbcc, Bcc, BccLong, Moveq}
use Rattle.m68_isa.specs.declared.found.Found.{Found}
use Rattle.m68_isa.specs.Classes.{in_class, is_source}
use Rattle.m68_isa.specs.Classes.Class.{Alterable, DataAlterable}
use Rattle.m68_isa.specs.First.{First, size_of, low_byte, condition_of, one_to_eight}
use Rattle.m68_isa.specs.Operands.{extended_word, long_at}
use Rattle.m68_isa.specs.Rows.{Row, row, words, one, sized}

-- what can be changed, but no address register at byte size
abbrev pub is_changed : First → Bool
is_changed f = nat_lt f.size 3 && is_source Alterable (size_of f.size) f.mode f.lower

-- 0101 qqq0 ssee eeee: addq; 0101 qqq1 ssee eeee: subq; 0 stands for 8
-- 0101 cccc 11ee eeee: scc; 0101 cccc 1100 1yyy: dbcc
abbrev pub rows_5 : List Row
rows_5 =
    row (λ f. (f.bit8 == 0) && is_changed f) (λ f. sized (λ s e. Quick QuickBy.Addq s (one_to_eight f.upper) e) f)
    ∷ row (λ f. (f.bit8 == 1) && is_changed f) (λ f. sized (λ s e. Quick QuickBy.Subq s (one_to_eight f.upper) e) f)
    ∷ row (λ f. (f.size == 3) && in_class DataAlterable f.mode f.lower) (λ f. one (Scc (condition_of f)) One f)
    ∷ row (λ f. (f.size == 3) && (f.mode == 1)) (λ f ws. words 2 (Dbcc (condition_of f) f.lower (extended_word ws 1)))
    ∷ []

-- a branch with its displacement in the low byte, in the word behind, or in the long behind
abbrev pub branch_byte : ℕ → First → Found
branch_byte condition f = words 1 (Bcc condition (sign_extended (low_byte f) One))

abbrev pub branch_word : ℕ → List ℕ → Found
branch_word condition ws = words 2 (Bcc condition (extended_word ws 1))

abbrev pub branch_long : ℕ → List ℕ → Found
branch_long condition ws = words 3 (BccLong condition (long_at ws 1))

-- the low byte is the displacement
abbrev pub is_short : First → Bool
is_short f = not ((low_byte f == 0) || (low_byte f == 255))

-- 0110 0000 dddd dddd: bra; 0110 0001 dddd dddd: bsr; 0110 cccc dddd dddd: bcc from condition 2 on;
-- where the byte is 0 a word follows, where it is 255 a long
abbrev pub rows_6 : List Row
rows_6 =
    row (λ f. (condition_of f == 0) && is_short f) (λ f ws. branch_byte 0 f)
    ∷ row (λ f. (condition_of f == 0) && (low_byte f == 0)) (λ f ws. branch_word 0 ws)
    ∷ row (λ f. (condition_of f == 0) && (low_byte f == 255)) (λ f ws. branch_long 0 ws)
    ∷ row (λ f. (condition_of f == 1) && is_short f) (λ f ws. branch_byte 1 f)
    ∷ row (λ f. (condition_of f == 1) && (low_byte f == 0)) (λ f ws. branch_word 1 ws)
    ∷ row (λ f. (condition_of f == 1) && (low_byte f == 255)) (λ f ws. branch_long 1 ws)
    ∷ row (λ f. nat_lt 1 (condition_of f) && is_short f) (λ f ws. branch_byte (condition_of f) f)
    ∷ row (λ f. nat_lt 1 (condition_of f) && (low_byte f == 0)) (λ f ws. branch_word (condition_of f) ws)
    ∷ row (λ f. nat_lt 1 (condition_of f) && (low_byte f == 255)) (λ f ws. branch_long (condition_of f) ws)
    ∷ []

-- 0111 rrr0 dddd dddd: moveq
abbrev pub rows_7 : List Row
rows_7 = row (λ f. f.bit8 == 0) (λ f ws. words 1 (Moveq (sign_extended (low_byte f) One) f.upper)) ∷ []
