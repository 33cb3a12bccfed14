-- Line 4: one operand, movem, control of the program, addresses
-- (M68000 Family Programmer's Reference Manual, section 8, miscellaneous).
use Rattle.std.specs.Prelude.{ℕ, ◌+◌, ◌*◌, ◌%◌, ◌==◌, ◌&&◌, ◌||◌, nat_lt, Bool, List, [], ◌∷◌, slice_index}
use Rattle.mix_bits.specs.declared.size.Size.{Size}
use Rattle.mix_bits.specs.declared.size.Size.TheVariants.{One, Two, Four}
use Rattle.m68_isa.specs.declared.ea.Ea.{Ea}
use Rattle.m68_isa.specs.declared.instructions.PlainOp.TheVariants as PlainBy
use Rattle.m68_isa.specs.declared.instructions.JumpOp.TheVariants as JumpBy
use Rattle.m68_isa.specs.declared.instructions.Instr68.{Instr68}
use Rattle.m68_isa.specs.declared.instructions.Instr68.TheVariants as Instr
use Rattle.m68_isa.specs.declared.found.Found.{Found}
use Rattle.m68_isa.specs.declared.found.Found.TheVariants.{Privileged, Illegal}
use Rattle.m68_isa.specs.Classes.{in_class}
use Rattle.m68_isa.specs.Classes.Class.{Data, DataAlterable, Control, ControlAlterable}
use Rattle.m68_isa.specs.First.{First, long_or_word}
use Rattle.m68_isa.specs.Operands.{extended_word, long_at, operand_at}
use Rattle.m68_isa.specs.Rows.{Row, row, words, taken, one, sized}
use Rattle.m68_isa.specs.Products.{by_registers}

-- the mask's word, then those of the operand
abbrev pub masked : (Size → ℕ → Ea → Instr68) → First → List ℕ → Found
masked make f ws =
    let s = long_or_word (f.size % 2) in
    let e = operand_at ws 2 s f.mode f.lower in
    taken (make s (slice_index ws 1) e.ea) e

abbrev pub is_data_alterable : First → Bool
is_data_alterable f = in_class DataAlterable f.mode f.lower

-- 0100 0000, 0010, 0100 and 0110, then ssee eeee: negx, clr, neg, not
-- 0100 0000 11ee eeee: move from SR; 0100 0100 11ee eeee: move to CCR; 0100 0110 11ee eeee: move to SR
abbrev pub rows_4_one : List Row
rows_4_one =
    row (λ f. (f.upper == 0) && (nat_lt f.size 3 && is_data_alterable f)) (sized Instr.Negx)
    ∷ row (λ f. (f.upper == 1) && (nat_lt f.size 3 && is_data_alterable f)) (sized Instr.Clr)
    ∷ row (λ f. (f.upper == 2) && (nat_lt f.size 3 && is_data_alterable f)) (sized Instr.Neg)
    ∷ row (λ f. (f.upper == 3) && (nat_lt f.size 3 && is_data_alterable f)) (sized Instr.Not)
    ∷ row (λ f. (f.upper == 0) && (f.size == 3) && is_data_alterable f) (one Instr.MoveFromSr Two)
    ∷ row (λ f. (f.upper == 2) && (f.size == 3) && in_class Data f.mode f.lower) (one Instr.MoveToCcr Two)
    ∷ row (λ f. (f.upper == 3) && (f.size == 3) && in_class Data f.mode f.lower) (λ f ws. Privileged)
    ∷ []

-- 0100 1000 00ee eeee: nbcd; 0100 1000 0000 1yyy: link with a long
-- 0100 1000 01ee eeee: swap of a data register, pea of a control place
-- 0100 1000 1zee eeee: ext of a data register, where z tells a long from a word, movem to a control alterable place or -(An)
abbrev pub rows_4_8 : List Row
rows_4_8 =
    row (λ f. (f.size == 0) && is_data_alterable f) (one Instr.Nbcd One)
    ∷ row (λ f. (f.size == 0) && (f.mode == 1)) (λ f ws. words 3 (Instr.LinkLong f.lower (long_at ws 1)))
    ∷ row (λ f. (f.size == 1) && (f.mode == 0)) (λ f ws. words 1 (Instr.Swap f.lower))
    ∷ row (λ f. (f.size == 1) && in_class Control f.mode f.lower) (one Instr.Pea Four)
    ∷ row (λ f. nat_lt 1 f.size && (f.mode == 0)) (λ f ws. words 1 (Instr.Ext (long_or_word (f.size % 2)) f.lower))
    ∷ row (λ f. nat_lt 1 f.size && (in_class ControlAlterable f.mode f.lower || (f.mode == 4))) (masked Instr.MovemToMemory)
    ∷ []

-- 0100 1010 ssee eeee: tst; 0100 1010 11ee eeee: tas; $4AFC: illegal
-- 0100 1100 00ee eeee: mulu.l, muls.l; 0100 1100 01ee eeee: divu.l, divs.l
-- 0100 1100 1zee eeee: movem from a control place or (An)+
abbrev pub rows_4_test : List Row
rows_4_test =
    row (λ f. (f.upper == 5) && nat_lt f.size 3 && is_data_alterable f) (sized Instr.Tst)
    ∷ row (λ f. (f.upper == 5) && (f.size == 3) && is_data_alterable f) (one Instr.Tas One)
    ∷ row (λ f. (f.upper == 5) && (f.size == 3) && (f.mode == 7) && (f.lower == 4)) (λ f ws. Illegal)
    ∷ row (λ f. (f.upper == 6) && (f.size == 0) && in_class Data f.mode f.lower) (by_registers Instr.MulLong)
    ∷ row (λ f. (f.upper == 6) && (f.size == 1) && in_class Data f.mode f.lower) (by_registers Instr.DivLong)
    ∷ row (λ f. (f.upper == 6) && nat_lt 1 f.size && (in_class Control f.mode f.lower || (f.mode == 3))) (masked Instr.MovemFromMemory)
    ∷ []

-- 0100 1110 0100 vvvv: trap; 0101 0yyy: link; 0101 1yyy: unlk; 0110 xxxx: move usp
-- $4E70 reset, $4E71 nop, $4E72 stop, $4E73 rte, $4E74 rtd, $4E75 rts, $4E76 trapv, $4E77 rtr
abbrev pub rows_4_control : List Row
rows_4_control =
    row (λ f. nat_lt f.mode 2) (λ f ws. words 1 (Instr.Trap (f.mode * 8 + f.lower)))
    ∷ row (λ f. f.mode == 2) (λ f ws. words 2 (Instr.Link f.lower (extended_word ws 1)))
    ∷ row (λ f. f.mode == 3) (λ f ws. words 1 (Instr.Unlk f.lower))
    ∷ row (λ f. (f.mode == 4) || (f.mode == 5)) (λ f ws. Privileged)
    ∷ row (λ f. (f.mode == 6) && ((f.lower == 0) || (f.lower == 2) || (f.lower == 3))) (λ f ws. Privileged)
    ∷ row (λ f. (f.mode == 6) && (f.lower == 1)) (λ f ws. words 1 (Instr.Plain PlainBy.Nop))
    ∷ row (λ f. (f.mode == 6) && (f.lower == 4)) (λ f ws. words 2 (Instr.Rtd (extended_word ws 1)))
    ∷ row (λ f. (f.mode == 6) && (f.lower == 5)) (λ f ws. words 1 (Instr.Plain PlainBy.Rts))
    ∷ row (λ f. (f.mode == 6) && (f.lower == 6)) (λ f ws. words 1 Instr.Trapv)
    ∷ row (λ f. (f.mode == 6) && (f.lower == 7)) (λ f ws. words 1 Instr.Rtr)
    ∷ []

-- 0100 1110 10ee eeee: jsr; 0100 1110 11ee eeee: jmp
abbrev pub rows_4_jump : List Row
rows_4_jump =
    row (λ f. (f.size == 2) && in_class Control f.mode f.lower) (one (Instr.Jump JumpBy.Jsr) Four)
    ∷ row (λ f. (f.size == 3) && in_class Control f.mode f.lower) (one (Instr.Jump JumpBy.Jmp) Four)
    ∷ []

-- 0100 rrr1 10ee eeee: chk; 0100 rrr1 11ee eeee: lea; 0100 1001 1100 0yyy: extb
abbrev pub rows_4_odd : List Row
rows_4_odd =
    row (λ f. (f.size == 2) && in_class Data f.mode f.lower) (λ f. one (λ e. Instr.Chk e f.upper) Two f)
    ∷ row (λ f. (f.size == 3) && in_class Control f.mode f.lower) (λ f. one (λ e. Instr.Lea e f.upper) Four f)
    ∷ row (λ f. (f.upper == 4) && (f.size == 3) && (f.mode == 0)) (λ f ws. words 1 (Instr.ExtByte f.lower))
    ∷ []
