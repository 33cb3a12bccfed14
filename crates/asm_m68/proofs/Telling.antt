-- The words of each operation are what its text tells.
use Rattle.std.proofs.Common.{◌≡◌, ℕ, ◌%◌, ◌<◌, ◌^◌, ◌==◌, ◌&&◌, ◌||◌, not, nat_lt, List, slice_index, Bool, true, false, arith, refl, ◌∙◌}
use Rattle.mix_bits.specs.declared.size.Size.{Size}
use Rattle.mix_bits.specs.declared.size.Size.TheVariants.{One, Two, Four}
use Rattle.m68_isa.specs.declared.instructions.ImmediateOp.{ImmediateOp}
use Rattle.m68_isa.specs.declared.instructions.ImmediateOp.TheVariants as ImmediateBy
use Rattle.m68_isa.specs.declared.instructions.Instr68.TheVariants as Instr
use Rattle.m68_isa.specs.declared.instructions.JumpOp.TheVariants as JumpBy
use Rattle.m68_isa.specs.declared.instructions.QuickOp.TheVariants as QuickBy
use Rattle.m68_isa.specs.declared.op.Op68.{Op68}
use Rattle.m68_isa.specs.declared.op.Op68.TheVariants.{Ori, Andi, Subi, Addi, Eori, Cmpi, LogicToCcr, BitByNumber, BitByRegister, Movep, MoveByte, MoveWord, MoveLong, MoveaWord, MoveaLong, Negx, Clr, Neg, Not, MoveFromSr, MoveToCcr, Nbcd, Swap, Pea, Ext, ExtByte, MovemToMemory, MovemFromMemory, MulLong, DivLong, Tst, Tas, Trap, Link, LinkLong, Unlk, Nop, Rtd, Rts, Trapv, Rtr, Jsr, Jmp, Chk, Lea, Addq, Subq, Scc, Dbcc, BraByte, BraWord, BraLong, BsrByte, BsrWord, BsrLong, BccByte, BccWord, BccLong, Moveq, OrToRegister, OrToMemory, Divu, Divs, Sbcd, SubToRegister, SubToMemory, Suba, Subx, Cmp, Cmpa, Eor, Cmpm, AndToRegister, AndToMemory, Mulu, Muls, Abcd, Exg, AddToRegister, AddToMemory, Adda, Addx, Shift, ShiftMemory, Illegal, Privileged, LineA, LineF}
use Rattle.m68_isa.specs.Arithmetic.{exchange}
use Rattle.m68_isa.specs.Branches.{branch_byte}
use Rattle.m68_isa.specs.Classes.{in_class}
use Rattle.m68_isa.specs.Classes.Class.{DataAlterable, Control, ControlAlterable}
use Rattle.m68_isa.specs.Operations.{operation}
use Rattle.m68_isa.specs.First.{First, condition_of, first_of, long_or_word, low_byte, one_to_eight, size_of}
use Rattle.m68_isa.specs.Immediates.{bit_class, bit_op, immediate_with, is_immediate}
use Rattle.m68_isa.specs.Made.{made}
use Rattle.m68_isa.specs.Moves.{move_mode, moved_of}
use Rattle.m68_isa.specs.Operands.{immediate_at, operand_at}
use Rattle.m68_isa.specs.Shifts.{shift_op}
use Rattle.m68_isa.specs.laws.Widths.{is_any}
use Rattle.m68_text.specs.declared.operand.Operand.TheVariants.{Data, Address, Word, Number, ConditionCodes, StatusRegister}
use Rattle.asm_m68.proofs.Places.{plain_word}
use Rattle.asm_m68.proofs.Parts.{at_word, of_near, of_parts}
use Rattle.asm_m68.proofs.Rows.{bits_none, counted_alone, counted_told, distance_shown, either_none, exchanged_alone, exchanged_told, extended_shown, first_word_shown, from_memory_row, front, immediate_row, last, long_shown, mode_none, move_row, movep_row, near_back, paired_alone, paired_told, product_row, quick_told, quotient_row, target_shown, to_memory_row, trap_told}
use Rattle.asm_m68.proofs.Shapes.{Given, IsTelling, after, and_place, before, no_control, no_control_alterable, single, some_long, some_size}

-- what the row of an operation asks of the first word, where its text tells the words by that
abbrev pub asks : Op68 → First → Bool
asks Ori f = in_class DataAlterable f.mode f.lower
asks Andi f = in_class DataAlterable f.mode f.lower
asks Subi f = in_class DataAlterable f.mode f.lower
asks Addi f = in_class DataAlterable f.mode f.lower
asks Eori f = in_class DataAlterable f.mode f.lower
asks Cmpi f = in_class DataAlterable f.mode f.lower
asks BitByNumber f = in_class (bit_class f.size) f.mode f.lower && not (is_immediate f)
asks MoveByte f = in_class DataAlterable (move_mode f) f.upper
asks MoveWord f = in_class DataAlterable (move_mode f) f.upper
asks MoveLong f = in_class DataAlterable (move_mode f) f.upper
asks MovemToMemory f = in_class ControlAlterable f.mode f.lower || (f.mode == 4)
asks MovemFromMemory f = in_class Control f.mode f.lower || (f.mode == 3)
asks Trap f = nat_lt f.mode 2
asks _ f = true

all_asked : (u r : ℕ) → of_parts (λ f. asks (operation f) f) u r ≡ true
all_asked u r = refl

near_asked : (s m r : ℕ) → of_near asks s m r ≡ true
near_asked s m r = refl

pub asked : (w : ℕ) → w < 2 ^ 16 → asks (operation (first_of w)) (first_of w) ≡ true
asked w below = at_word asks w all_asked near_asked

told_immediate : (at : ℕ) (ws : List ℕ) (f : First) (g : Given at ws f) → in_class DataAlterable f.mode f.lower ≡ true → (op : ImmediateOp) → IsTelling at ws (immediate_with op f ws)
told_immediate at ws f g alterable op = immediate_row at ws f g alterable (size_of f.size) (some_size f.size) (λ e. Instr.Immediate op (size_of f.size) (immediate_at ws 1 (size_of f.size)) e) (λ e. refl) (λ e n. (refl, refl))

told_move : (at : ℕ) (ws : List ℕ) (f : First) (g : Given at ws f) → in_class DataAlterable (move_mode f) f.upper ≡ true → (s : Size) → is_any s ≡ true → IsTelling at ws (moved_of s f ws)
told_move at ws f g alterable s some = move_row at ws f g alterable s some (operand_at ws 1 s f.mode f.lower) (operand_at ws (operand_at ws 1 s f.mode f.lower).next s (move_mode f) f.upper) refl refl

told_near : (at : ℕ) (ws : List ℕ) (f : First) (g : Given at ws f) (condition : ℕ) → IsTelling at ws (branch_byte condition f)
told_near at ws f g condition good = record { are_told = (tt, tt); words = refl; low = λ n. near_back at (low_byte f) g.fits (omega (arith, g.size, g.mode, g.lower)) ∙ g.low }

pub tells : (at : ℕ) (ws : List ℕ) (f : First) (g : Given at ws f) (op : Op68) → asks op f ≡ true → IsTelling at ws (made op f ws)
tells at ws f g Ori h = told_immediate at ws f g h ImmediateBy.Ori
tells at ws f g Andi h = told_immediate at ws f g h ImmediateBy.Andi
tells at ws f g Subi h = told_immediate at ws f g h ImmediateBy.Subi
tells at ws f g Addi h = told_immediate at ws f g h ImmediateBy.Addi
tells at ws f g Eori h = told_immediate at ws f g h ImmediateBy.Eori
tells at ws f g Cmpi h = told_immediate at ws f g h ImmediateBy.Cmpi
tells at ws f g LogicToCcr h = λ good. record { are_told = (tt, (tt, tt)); words = plain_word (slice_index ws 1) (g.words.below 1); low = λ n. cc }
tells at ws f g BitByNumber h = λ good. and_place at ws g.words (Instr.BitByNumber (bit_op f.size) (slice_index ws 1 % 256) (operand_at ws 2 One f.mode f.lower).ea) (Word (slice_index ws 1)) 2 One f.mode f.lower g.mode g.lower refl (bits_none (f.size == 0) f.mode f.lower (front _ _ h) (last _ _ h)) (first_word_shown at ws f g) refl (λ n. (refl, refl)) good
tells at ws f g BitByRegister h = before at ws f g One refl (λ e. Instr.BitByRegister (bit_op f.size) f.upper e) (Data f.upper) g.upper refl (λ e. refl) (λ e n. (refl, refl))
tells at ws f g Movep h = movep_row at ws f g (long_or_word (f.size % 2)) (nat_lt 1 f.size)
tells at ws f g MoveByte h = told_move at ws f g h One refl
tells at ws f g MoveWord h = told_move at ws f g h Two refl
tells at ws f g MoveLong h = told_move at ws f g h Four refl
tells at ws f g MoveaWord h = after at ws f g Two refl (λ e. Instr.Movea Two e f.upper) (Address f.upper) g.upper refl refl (λ e. refl) (λ e n. (refl, refl))
tells at ws f g MoveaLong h = after at ws f g Four refl (λ e. Instr.Movea Four e f.upper) (Address f.upper) g.upper refl refl (λ e. refl) (λ e n. (refl, refl))
tells at ws f g Negx h = single at ws f g (size_of f.size) (some_size f.size) (Instr.Negx (size_of f.size)) (λ e. refl) (λ e n. (refl, refl))
tells at ws f g Clr h = single at ws f g (size_of f.size) (some_size f.size) (Instr.Clr (size_of f.size)) (λ e. refl) (λ e n. (refl, refl))
tells at ws f g Neg h = single at ws f g (size_of f.size) (some_size f.size) (Instr.Neg (size_of f.size)) (λ e. refl) (λ e n. (refl, refl))
tells at ws f g Not h = single at ws f g (size_of f.size) (some_size f.size) (Instr.Not (size_of f.size)) (λ e. refl) (λ e n. (refl, refl))
tells at ws f g MoveFromSr h = before at ws f g Two refl Instr.MoveFromSr StatusRegister tt refl (λ e. refl) (λ e n. (refl, refl))
tells at ws f g MoveToCcr h = after at ws f g Two refl Instr.MoveToCcr ConditionCodes tt refl refl (λ e. refl) (λ e n. (refl, refl))
tells at ws f g Nbcd h = single at ws f g One refl Instr.Nbcd (λ e. refl) (λ e n. (refl, refl))
tells at ws f g Swap h = λ good. record { are_told = (g.lower, tt); words = refl; low = λ n. cc }
tells at ws f g Pea h = single at ws f g Four refl Instr.Pea (λ e. refl) (λ e n. (refl, refl))
tells at ws f g Ext h = λ good. record { are_told = (g.lower, tt); words = refl; low = λ n. cc }
tells at ws f g ExtByte h = λ good. record { are_told = (g.lower, tt); words = refl; low = λ n. cc }
tells at ws f g MovemToMemory h = to_memory_row at ws f g (either_none _ _ f.mode f.lower (no_control_alterable f.mode f.lower) (mode_none f.mode f.lower 4 (omega arith)) h) (long_or_word (f.size % 2)) (some_long (f.size % 2))
tells at ws f g MovemFromMemory h = from_memory_row at ws f g (either_none _ _ f.mode f.lower (no_control f.mode f.lower) (mode_none f.mode f.lower 3 (omega arith)) h) (long_or_word (f.size % 2)) (some_long (f.size % 2))
tells at ws f g MulLong h = product_row at ws f g
tells at ws f g DivLong h = quotient_row at ws f g
tells at ws f g Tst h = single at ws f g (size_of f.size) (some_size f.size) (Instr.Tst (size_of f.size)) (λ e. refl) (λ e n. (refl, refl))
tells at ws f g Tas h = single at ws f g One refl Instr.Tas (λ e. refl) (λ e n. (refl, refl))
tells at ws f g Trap h = λ good. record { are_told = (trap_told f.mode f.lower g.lower h, tt); words = refl; low = λ n. cc }
tells at ws f g Link h = λ good. record { are_told = (g.lower, (tt, tt)); words = extended_shown at ws f g; low = λ n. cc }
tells at ws f g LinkLong h = λ good. record { are_told = (g.lower, (tt, tt)); words = long_shown at ws f g; low = λ n. cc }
tells at ws f g Unlk h = λ good. record { are_told = (g.lower, tt); words = refl; low = λ n. cc }
tells at ws f g Nop h = λ good. record { are_told = tt; words = refl; low = λ n. cc }
tells at ws f g Rtd h = λ good. record { are_told = (tt, tt); words = extended_shown at ws f g; low = λ n. cc }
tells at ws f g Rts h = λ good. record { are_told = tt; words = refl; low = λ n. cc }
tells at ws f g Trapv h = λ good. record { are_told = tt; words = refl; low = λ n. cc }
tells at ws f g Rtr h = λ good. record { are_told = tt; words = refl; low = λ n. cc }
tells at ws f g Jsr h = single at ws f g Four refl (Instr.Jump JumpBy.Jsr) (λ e. refl) (λ e n. (refl, refl))
tells at ws f g Jmp h = single at ws f g Four refl (Instr.Jump JumpBy.Jmp) (λ e. refl) (λ e n. (refl, refl))
tells at ws f g Chk h = after at ws f g Two refl (λ e. Instr.Chk e f.upper) (Data f.upper) g.upper refl refl (λ e. refl) (λ e n. (refl, refl))
tells at ws f g Lea h = after at ws f g Four refl (λ e. Instr.Lea e f.upper) (Address f.upper) g.upper refl refl (λ e. refl) (λ e n. (refl, refl))
tells at ws f g Addq h = before at ws f g (size_of f.size) (some_size f.size) (Instr.Quick QuickBy.Addq (size_of f.size) (one_to_eight f.upper)) (Number (one_to_eight f.upper)) (quick_told f.upper g.upper) refl (λ e. refl) (λ e n. (refl, refl))
tells at ws f g Subq h = before at ws f g (size_of f.size) (some_size f.size) (Instr.Quick QuickBy.Subq (size_of f.size) (one_to_eight f.upper)) (Number (one_to_eight f.upper)) (quick_told f.upper g.upper) refl (λ e. refl) (λ e n. (refl, refl))
tells at ws f g Scc h = single at ws f g One refl (Instr.Scc (condition_of f)) (λ e. refl) (λ e n. (refl, refl))
tells at ws f g Dbcc h = λ good. record { are_told = (g.lower, (tt, tt)); words = target_shown at ws f g; low = λ n. cc }
tells at ws f g BraByte h = told_near at ws f g 0
tells at ws f g BraWord h = λ good. record { are_told = (tt, tt); words = target_shown at ws f g; low = λ n. cc }
tells at ws f g BraLong h = λ good. record { are_told = (tt, tt); words = distance_shown at ws f g; low = λ n. cc }
tells at ws f g BsrByte h = told_near at ws f g 1
tells at ws f g BsrWord h = λ good. record { are_told = (tt, tt); words = target_shown at ws f g; low = λ n. cc }
tells at ws f g BsrLong h = λ good. record { are_told = (tt, tt); words = distance_shown at ws f g; low = λ n. cc }
tells at ws f g BccByte h = told_near at ws f g (condition_of f)
tells at ws f g BccWord h = λ good. record { are_told = (tt, tt); words = target_shown at ws f g; low = λ n. cc }
tells at ws f g BccLong h = λ good. record { are_told = (tt, tt); words = distance_shown at ws f g; low = λ n. cc }
tells at ws f g Moveq h = λ good. record { are_told = (tt, (g.upper, tt)); words = refl; low = λ n. cc }
tells at ws f g OrToRegister h = after at ws f g (size_of f.size) (some_size f.size) (λ e. Instr.Or (size_of f.size) false f.upper e) (Data f.upper) g.upper refl refl (λ e. refl) (λ e n. (refl, refl))
tells at ws f g OrToMemory h = before at ws f g (size_of f.size) (some_size f.size) (λ e. Instr.Or (size_of f.size) true f.upper e) (Data f.upper) g.upper refl (λ e. refl) (λ e n. (refl, refl))
tells at ws f g Divu h = after at ws f g Two refl (λ e. Instr.Div false e f.upper) (Data f.upper) g.upper refl refl (λ e. refl) (λ e n. (refl, refl))
tells at ws f g Divs h = after at ws f g Two refl (λ e. Instr.Div true e f.upper) (Data f.upper) g.upper refl refl (λ e. refl) (λ e n. (refl, refl))
tells at ws f g Sbcd h = λ good. record { are_told = paired_told (f.mode == 1) f.lower f.upper g.lower g.upper; words = paired_alone at (f.mode == 1) f.lower f.upper; low = λ n. cc }
tells at ws f g SubToRegister h = after at ws f g (size_of f.size) (some_size f.size) (λ e. Instr.Sub (size_of f.size) false f.upper e) (Data f.upper) g.upper refl refl (λ e. refl) (λ e n. (refl, refl))
tells at ws f g SubToMemory h = before at ws f g (size_of f.size) (some_size f.size) (λ e. Instr.Sub (size_of f.size) true f.upper e) (Data f.upper) g.upper refl (λ e. refl) (λ e n. (refl, refl))
tells at ws f g Suba h = after at ws f g (long_or_word f.bit8) (some_long f.bit8) (λ e. Instr.Suba (long_or_word f.bit8) e f.upper) (Address f.upper) g.upper refl refl (λ e. refl) (λ e n. (refl, refl))
tells at ws f g Subx h = λ good. record { are_told = paired_told (f.mode == 1) f.lower f.upper g.lower g.upper; words = paired_alone at (f.mode == 1) f.lower f.upper; low = λ n. cc }
tells at ws f g Cmp h = after at ws f g (size_of f.size) (some_size f.size) (λ e. Instr.Cmp (size_of f.size) e f.upper) (Data f.upper) g.upper refl refl (λ e. refl) (λ e n. (refl, refl))
tells at ws f g Cmpa h = after at ws f g (long_or_word f.bit8) (some_long f.bit8) (λ e. Instr.Cmpa (long_or_word f.bit8) e f.upper) (Address f.upper) g.upper refl refl (λ e. refl) (λ e n. (refl, refl))
tells at ws f g Eor h = before at ws f g (size_of f.size) (some_size f.size) (λ e. Instr.Eor (size_of f.size) f.upper e) (Data f.upper) g.upper refl (λ e. refl) (λ e n. (refl, refl))
tells at ws f g Cmpm h = λ good. record { are_told = (g.lower, (g.upper, tt)); words = refl; low = λ n. cc }
tells at ws f g AndToRegister h = after at ws f g (size_of f.size) (some_size f.size) (λ e. Instr.And (size_of f.size) false f.upper e) (Data f.upper) g.upper refl refl (λ e. refl) (λ e n. (refl, refl))
tells at ws f g AndToMemory h = before at ws f g (size_of f.size) (some_size f.size) (λ e. Instr.And (size_of f.size) true f.upper e) (Data f.upper) g.upper refl (λ e. refl) (λ e n. (refl, refl))
tells at ws f g Mulu h = after at ws f g Two refl (λ e. Instr.Mul false e f.upper) (Data f.upper) g.upper refl refl (λ e. refl) (λ e n. (refl, refl))
tells at ws f g Muls h = after at ws f g Two refl (λ e. Instr.Mul true e f.upper) (Data f.upper) g.upper refl refl (λ e. refl) (λ e n. (refl, refl))
tells at ws f g Abcd h = λ good. record { are_told = paired_told (f.mode == 1) f.lower f.upper g.lower g.upper; words = paired_alone at (f.mode == 1) f.lower f.upper; low = λ n. cc }
tells at ws f g Exg h = λ good. record { are_told = exchanged_told (exchange f) f.upper f.lower g.upper g.lower; words = exchanged_alone at (exchange f) f.upper f.lower; low = λ n. cc }
tells at ws f g AddToRegister h = after at ws f g (size_of f.size) (some_size f.size) (λ e. Instr.Add (size_of f.size) false f.upper e) (Data f.upper) g.upper refl refl (λ e. refl) (λ e n. (refl, refl))
tells at ws f g AddToMemory h = before at ws f g (size_of f.size) (some_size f.size) (λ e. Instr.Add (size_of f.size) true f.upper e) (Data f.upper) g.upper refl (λ e. refl) (λ e n. (refl, refl))
tells at ws f g Adda h = after at ws f g (long_or_word f.bit8) (some_long f.bit8) (λ e. Instr.Adda (long_or_word f.bit8) e f.upper) (Address f.upper) g.upper refl refl (λ e. refl) (λ e n. (refl, refl))
tells at ws f g Addx h = λ good. record { are_told = paired_told (f.mode == 1) f.lower f.upper g.lower g.upper; words = paired_alone at (f.mode == 1) f.lower f.upper; low = λ n. cc }
tells at ws f g Shift h = λ good. record { are_told = (counted_told (nat_lt f.mode 4) f.upper g.upper, (g.lower, tt)); words = counted_alone at (nat_lt f.mode 4) (one_to_eight f.upper) f.upper f.lower; low = λ n. cc }
tells at ws f g ShiftMemory h = single at ws f g Two refl (Instr.ShiftMemory (shift_op f.upper) (f.bit8 == 1)) (λ e. refl) (λ e n. (refl, refl))
tells at ws f g Illegal h = tt
tells at ws f g Privileged h = tt
tells at ws f g LineA h = tt
tells at ws f g LineF h = tt
