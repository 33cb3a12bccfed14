-- Lines 1, 2 and 3: move and movea
-- (M68000 Family Programmer's Reference Manual, section 8, MOVE byte, long, word).
use Rattle.std.specs.Prelude.{ℕ, ◌+◌, ◌*◌, ◌==◌, ◌&&◌, Bool, List, [], ◌∷◌}
use Rattle.mix_bits.specs.declared.size.Size.{Size}
use Rattle.mix_bits.specs.declared.size.Size.TheVariants.{One, Two, Four}
use Rattle.m68_isa.specs.declared.instructions.Instr68.TheVariants.{Move, Movea}
use Rattle.m68_isa.specs.declared.found.Found.{Found}
use Rattle.m68_isa.specs.declared.found.Found.TheVariants.{Made}
use Rattle.m68_isa.specs.Classes.{in_class, is_source}
use Rattle.m68_isa.specs.Classes.Class.{Any, DataAlterable}
use Rattle.m68_isa.specs.First.{First}
use Rattle.m68_isa.specs.Operands.{operand_at}
use Rattle.m68_isa.specs.Rows.{Row, row, one}

-- the destination's mode stands in bits 8 to 6, its register in bits 11 to 9
abbrev pub move_mode : First → ℕ
move_mode f = f.bit8 * 4 + f.size

-- a move of this size: the source's words, then the destination's
abbrev pub moved_of : Size → First → List ℕ → Found
moved_of s f ws =
    let from = operand_at ws 1 s f.mode f.lower in
    let to = operand_at ws from.next s (move_mode f) f.upper in
    Made (Move s from.ea to.ea) to.next (from.good && to.good)

-- to a data alterable place
abbrev pub is_moved : First → Bool
is_moved f = in_class DataAlterable (move_mode f) f.upper

-- 0001 rrrm mmee eeee: move of a byte, from any place but an address register
abbrev pub rows_1 : List Row
rows_1 = row (λ f. is_source Any One f.mode f.lower && is_moved f) (moved_of One) ∷ []

-- 0010 rrrm mmee eeee: move of a long; 0010 rrr0 01ee eeee: movea
abbrev pub rows_2 : List Row
rows_2 =
    row (λ f. in_class Any f.mode f.lower && is_moved f) (moved_of Four)
    ∷ row (λ f. in_class Any f.mode f.lower && (move_mode f == 1)) (λ f. one (λ e. Movea Four e f.upper) Four f)
    ∷ []

-- 0011 rrrm mmee eeee: move of a word; 0011 rrr0 01ee eeee: movea
abbrev pub rows_3 : List Row
rows_3 =
    row (λ f. in_class Any f.mode f.lower && is_moved f) (moved_of Two)
    ∷ row (λ f. in_class Any f.mode f.lower && (move_mode f == 1)) (λ f. one (λ e. Movea Two e f.upper) Two f)
    ∷ []
