-- What an operation makes of words it makes of others that agree on those of its instruction.
use Rattle.std.proofs.Common.{◌≡◌, ℕ, ◌%◌, ◌==◌, nat_lt, List, [], ◌∷◌, slice_index, true, false, arith, refl, ap}
use Rattle.mix_bits.specs.Sizes.{sign_extended}
use Rattle.mix_bits.specs.declared.size.Size.{Size}
use Rattle.mix_bits.specs.declared.size.Size.TheVariants.{One, Two, Four}
use Rattle.m68_isa.specs.declared.instructions.ImmediateOp.{ImmediateOp}
use Rattle.m68_isa.specs.declared.instructions.ImmediateOp.TheVariants as ImmediateBy
use Rattle.m68_isa.specs.declared.instructions.Instr68.TheVariants as Instr
use Rattle.m68_isa.specs.declared.instructions.JumpOp.TheVariants as JumpBy
use Rattle.m68_isa.specs.declared.instructions.QuickOp.TheVariants as QuickBy
use Rattle.m68_isa.specs.declared.op.Op68.{Op68}
use Rattle.m68_isa.specs.declared.op.Op68.TheVariants.{Ori, Andi, Subi, Addi, Eori, Cmpi, LogicToCcr, BitByNumber, BitByRegister, Movep, MoveByte, MoveWord, MoveLong, MoveaWord, MoveaLong, Negx, Clr, Neg, Not, MoveFromSr, MoveToCcr, Nbcd, Swap, Pea, Ext, ExtByte, MovemToMemory, MovemFromMemory, MulLong, DivLong, Tst, Tas, Trap, Link, LinkLong, Unlk, Nop, Rtd, Rts, Trapv, Rtr, Jsr, Jmp, Chk, Lea, Addq, Subq, Scc, Dbcc, BraByte, BraWord, BraLong, BsrByte, BsrWord, BsrLong, BccByte, BccWord, BccLong, Moveq, OrToRegister, OrToMemory, Divu, Divs, Sbcd, SubToRegister, SubToMemory, Suba, Subx, Cmp, Cmpa, Eor, Cmpm, AndToRegister, AndToMemory, Mulu, Muls, Abcd, Exg, AddToRegister, AddToMemory, Adda, Addx, Shift, ShiftMemory, Illegal, Privileged, LineA, LineF}
use Rattle.m68_isa.specs.First.{First, condition_of, long_or_word, one_to_eight, size_of}
use Rattle.m68_isa.specs.inner.First.{IsFirst}
use Rattle.m68_isa.specs.Immediates.{bit_op, immediate_with}
use Rattle.m68_isa.specs.Made.{made}
use Rattle.m68_isa.specs.Moves.{move_mode, moved_of}
use Rattle.m68_isa.specs.Operands.{operand_at}
use Rattle.m68_isa.specs.Shifts.{shift_op}
use Rattle.m68_isa.specs.laws.Widths.{is_any}
use Rattle.m68_text.specs.declared.operand.Operand.TheVariants.{Data, Address, Word, Number, ConditionCodes, StatusRegister}
use Rattle.asm_m68.proofs.Shapes.{some_long, some_size}
use Rattle.asm_m68.proofs.Alike.{IsSame, codes_row, immediate_row, masked_from, masked_to, move_row, product_row, same_long, same_one, same_second, same_word}

same_immediate : (at : ℕ) (ws vs : List ℕ) (f : First) (g : IsFirst f) (op : ImmediateOp) → IsSame at ws vs (immediate_with op f ws) (immediate_with op f vs)
same_immediate at ws vs f g op = immediate_row at ws vs f g (size_of f.size) (some_size f.size) (λ v e. Instr.Immediate op (size_of f.size) v e) (λ us v e. refl)

same_move : (at : ℕ) (ws vs : List ℕ) (f : First) (g : IsFirst f) (s : Size) → is_any s ≡ true → IsSame at ws vs (moved_of s f ws) (moved_of s f vs)
same_move at ws vs f g s some = move_row at ws vs f g s some (operand_at ws 1 s f.mode f.lower) (operand_at vs 1 s f.mode f.lower) (operand_at ws (operand_at ws 1 s f.mode f.lower).next s (move_mode f) f.upper) (operand_at vs (operand_at vs 1 s f.mode f.lower).next s (move_mode f) f.upper) refl refl refl refl

pub same : (at : ℕ) (ws vs : List ℕ) (f : First) (g : IsFirst f) (op : Op68) → IsSame at ws vs (made op f ws) (made op f vs)
same at ws vs f g Ori = same_immediate at ws vs f g ImmediateBy.Ori
same at ws vs f g Andi = same_immediate at ws vs f g ImmediateBy.Andi
same at ws vs f g Subi = same_immediate at ws vs f g ImmediateBy.Subi
same at ws vs f g Addi = same_immediate at ws vs f g ImmediateBy.Addi
same at ws vs f g Eori = same_immediate at ws vs f g ImmediateBy.Eori
same at ws vs f g Cmpi = same_immediate at ws vs f g ImmediateBy.Cmpi
same at ws vs f g LogicToCcr = codes_row at ws vs f g
same at ws vs f g BitByNumber = same_second at ws vs f g One refl (λ w e. Instr.BitByNumber (bit_op f.size) (w % 256) e) (λ t o. t ∷ o ∷ []) (λ us. Word (slice_index us 1)) (λ us w e. refl) (λ e. ap Word e)
same at ws vs f g BitByRegister = same_one at ws vs f g One refl (λ e. Instr.BitByRegister (bit_op f.size) f.upper e) (λ o. Data f.upper ∷ o ∷ []) (λ us e. refl)
same at ws vs f g Movep = same_word at ws vs f g (λ w. Instr.Movep (long_or_word (f.size % 2)) (nat_lt 1 f.size) f.upper f.lower (sign_extended w Two)) (λ w. refl)
same at ws vs f g MoveByte = same_move at ws vs f g One refl
same at ws vs f g MoveWord = same_move at ws vs f g Two refl
same at ws vs f g MoveLong = same_move at ws vs f g Four refl
same at ws vs f g MoveaWord = same_one at ws vs f g Two refl (λ e. Instr.Movea Two e f.upper) (λ o. o ∷ Address f.upper ∷ []) (λ us e. refl)
same at ws vs f g MoveaLong = same_one at ws vs f g Four refl (λ e. Instr.Movea Four e f.upper) (λ o. o ∷ Address f.upper ∷ []) (λ us e. refl)
same at ws vs f g Negx = same_one at ws vs f g (size_of f.size) (some_size f.size) (Instr.Negx (size_of f.size)) (λ o. o ∷ []) (λ us e. refl)
same at ws vs f g Clr = same_one at ws vs f g (size_of f.size) (some_size f.size) (Instr.Clr (size_of f.size)) (λ o. o ∷ []) (λ us e. refl)
same at ws vs f g Neg = same_one at ws vs f g (size_of f.size) (some_size f.size) (Instr.Neg (size_of f.size)) (λ o. o ∷ []) (λ us e. refl)
same at ws vs f g Not = same_one at ws vs f g (size_of f.size) (some_size f.size) (Instr.Not (size_of f.size)) (λ o. o ∷ []) (λ us e. refl)
same at ws vs f g MoveFromSr = same_one at ws vs f g Two refl Instr.MoveFromSr (λ o. StatusRegister ∷ o ∷ []) (λ us e. refl)
same at ws vs f g MoveToCcr = same_one at ws vs f g Two refl Instr.MoveToCcr (λ o. o ∷ ConditionCodes ∷ []) (λ us e. refl)
same at ws vs f g Nbcd = same_one at ws vs f g One refl Instr.Nbcd (λ o. o ∷ []) (λ us e. refl)
same at ws vs f g Swap = λ a. record { some = omega arith; made = refl; told = refl }
same at ws vs f g Pea = same_one at ws vs f g Four refl Instr.Pea (λ o. o ∷ []) (λ us e. refl)
same at ws vs f g Ext = λ a. record { some = omega arith; made = refl; told = refl }
same at ws vs f g ExtByte = λ a. record { some = omega arith; made = refl; told = refl }
same at ws vs f g MovemToMemory = masked_to at ws vs f g (long_or_word (f.size % 2)) (some_long (f.size % 2))
same at ws vs f g MovemFromMemory = masked_from at ws vs f g (long_or_word (f.size % 2)) (some_long (f.size % 2))
same at ws vs f g MulLong = product_row at ws vs f g Instr.MulLong (λ us s v e h l. refl)
same at ws vs f g DivLong = product_row at ws vs f g Instr.DivLong (λ us s v e h l. refl)
same at ws vs f g Tst = same_one at ws vs f g (size_of f.size) (some_size f.size) (Instr.Tst (size_of f.size)) (λ o. o ∷ []) (λ us e. refl)
same at ws vs f g Tas = same_one at ws vs f g One refl Instr.Tas (λ o. o ∷ []) (λ us e. refl)
same at ws vs f g Trap = λ a. record { some = omega arith; made = refl; told = refl }
same at ws vs f g Link = same_word at ws vs f g (λ w. Instr.Link f.lower (sign_extended w Two)) (λ w. refl)
same at ws vs f g LinkLong = same_long at ws vs f g (λ v. Instr.LinkLong f.lower v) (λ w. refl)
same at ws vs f g Unlk = λ a. record { some = omega arith; made = refl; told = refl }
same at ws vs f g Nop = λ a. record { some = omega arith; made = refl; told = refl }
same at ws vs f g Rtd = same_word at ws vs f g (λ w. Instr.Rtd (sign_extended w Two)) (λ w. refl)
same at ws vs f g Rts = λ a. record { some = omega arith; made = refl; told = refl }
same at ws vs f g Trapv = λ a. record { some = omega arith; made = refl; told = refl }
same at ws vs f g Rtr = λ a. record { some = omega arith; made = refl; told = refl }
same at ws vs f g Jsr = same_one at ws vs f g Four refl (Instr.Jump JumpBy.Jsr) (λ o. o ∷ []) (λ us e. refl)
same at ws vs f g Jmp = same_one at ws vs f g Four refl (Instr.Jump JumpBy.Jmp) (λ o. o ∷ []) (λ us e. refl)
same at ws vs f g Chk = same_one at ws vs f g Two refl (λ e. Instr.Chk e f.upper) (λ o. o ∷ Data f.upper ∷ []) (λ us e. refl)
same at ws vs f g Lea = same_one at ws vs f g Four refl (λ e. Instr.Lea e f.upper) (λ o. o ∷ Address f.upper ∷ []) (λ us e. refl)
same at ws vs f g Addq = same_one at ws vs f g (size_of f.size) (some_size f.size) (Instr.Quick QuickBy.Addq (size_of f.size) (one_to_eight f.upper)) (λ o. Number (one_to_eight f.upper) ∷ o ∷ []) (λ us e. refl)
same at ws vs f g Subq = same_one at ws vs f g (size_of f.size) (some_size f.size) (Instr.Quick QuickBy.Subq (size_of f.size) (one_to_eight f.upper)) (λ o. Number (one_to_eight f.upper) ∷ o ∷ []) (λ us e. refl)
same at ws vs f g Scc = same_one at ws vs f g One refl (Instr.Scc (condition_of f)) (λ o. o ∷ []) (λ us e. refl)
same at ws vs f g Dbcc = same_word at ws vs f g (λ w. Instr.Dbcc (condition_of f) f.lower (sign_extended w Two)) (λ w. refl)
same at ws vs f g BraByte = λ a. record { some = omega arith; made = refl; told = refl }
same at ws vs f g BraWord = same_word at ws vs f g (λ w. Instr.Bcc 0 (sign_extended w Two)) (λ w. refl)
same at ws vs f g BraLong = same_long at ws vs f g (λ v. Instr.BccLong 0 v) (λ w. refl)
same at ws vs f g BsrByte = λ a. record { some = omega arith; made = refl; told = refl }
same at ws vs f g BsrWord = same_word at ws vs f g (λ w. Instr.Bcc 1 (sign_extended w Two)) (λ w. refl)
same at ws vs f g BsrLong = same_long at ws vs f g (λ v. Instr.BccLong 1 v) (λ w. refl)
same at ws vs f g BccByte = λ a. record { some = omega arith; made = refl; told = refl }
same at ws vs f g BccWord = same_word at ws vs f g (λ w. Instr.Bcc (condition_of f) (sign_extended w Two)) (λ w. refl)
same at ws vs f g BccLong = same_long at ws vs f g (λ v. Instr.BccLong (condition_of f) v) (λ w. refl)
same at ws vs f g Moveq = λ a. record { some = omega arith; made = refl; told = refl }
same at ws vs f g OrToRegister = same_one at ws vs f g (size_of f.size) (some_size f.size) (λ e. Instr.Or (size_of f.size) false f.upper e) (λ o. o ∷ Data f.upper ∷ []) (λ us e. refl)
same at ws vs f g OrToMemory = same_one at ws vs f g (size_of f.size) (some_size f.size) (λ e. Instr.Or (size_of f.size) true f.upper e) (λ o. Data f.upper ∷ o ∷ []) (λ us e. refl)
same at ws vs f g Divu = same_one at ws vs f g Two refl (λ e. Instr.Div false e f.upper) (λ o. o ∷ Data f.upper ∷ []) (λ us e. refl)
same at ws vs f g Divs = same_one at ws vs f g Two refl (λ e. Instr.Div true e f.upper) (λ o. o ∷ Data f.upper ∷ []) (λ us e. refl)
same at ws vs f g Sbcd = λ a. record { some = omega arith; made = refl; told = refl }
same at ws vs f g SubToRegister = same_one at ws vs f g (size_of f.size) (some_size f.size) (λ e. Instr.Sub (size_of f.size) false f.upper e) (λ o. o ∷ Data f.upper ∷ []) (λ us e. refl)
same at ws vs f g SubToMemory = same_one at ws vs f g (size_of f.size) (some_size f.size) (λ e. Instr.Sub (size_of f.size) true f.upper e) (λ o. Data f.upper ∷ o ∷ []) (λ us e. refl)
same at ws vs f g Suba = same_one at ws vs f g (long_or_word f.bit8) (some_long f.bit8) (λ e. Instr.Suba (long_or_word f.bit8) e f.upper) (λ o. o ∷ Address f.upper ∷ []) (λ us e. refl)
same at ws vs f g Subx = λ a. record { some = omega arith; made = refl; told = refl }
same at ws vs f g Cmp = same_one at ws vs f g (size_of f.size) (some_size f.size) (λ e. Instr.Cmp (size_of f.size) e f.upper) (λ o. o ∷ Data f.upper ∷ []) (λ us e. refl)
same at ws vs f g Cmpa = same_one at ws vs f g (long_or_word f.bit8) (some_long f.bit8) (λ e. Instr.Cmpa (long_or_word f.bit8) e f.upper) (λ o. o ∷ Address f.upper ∷ []) (λ us e. refl)
same at ws vs f g Eor = same_one at ws vs f g (size_of f.size) (some_size f.size) (λ e. Instr.Eor (size_of f.size) f.upper e) (λ o. Data f.upper ∷ o ∷ []) (λ us e. refl)
same at ws vs f g Cmpm = λ a. record { some = omega arith; made = refl; told = refl }
same at ws vs f g AndToRegister = same_one at ws vs f g (size_of f.size) (some_size f.size) (λ e. Instr.And (size_of f.size) false f.upper e) (λ o. o ∷ Data f.upper ∷ []) (λ us e. refl)
same at ws vs f g AndToMemory = same_one at ws vs f g (size_of f.size) (some_size f.size) (λ e. Instr.And (size_of f.size) true f.upper e) (λ o. Data f.upper ∷ o ∷ []) (λ us e. refl)
same at ws vs f g Mulu = same_one at ws vs f g Two refl (λ e. Instr.Mul false e f.upper) (λ o. o ∷ Data f.upper ∷ []) (λ us e. refl)
same at ws vs f g Muls = same_one at ws vs f g Two refl (λ e. Instr.Mul true e f.upper) (λ o. o ∷ Data f.upper ∷ []) (λ us e. refl)
same at ws vs f g Abcd = λ a. record { some = omega arith; made = refl; told = refl }
same at ws vs f g Exg = λ a. record { some = omega arith; made = refl; told = refl }
same at ws vs f g AddToRegister = same_one at ws vs f g (size_of f.size) (some_size f.size) (λ e. Instr.Add (size_of f.size) false f.upper e) (λ o. o ∷ Data f.upper ∷ []) (λ us e. refl)
same at ws vs f g AddToMemory = same_one at ws vs f g (size_of f.size) (some_size f.size) (λ e. Instr.Add (size_of f.size) true f.upper e) (λ o. Data f.upper ∷ o ∷ []) (λ us e. refl)
same at ws vs f g Adda = same_one at ws vs f g (long_or_word f.bit8) (some_long f.bit8) (λ e. Instr.Adda (long_or_word f.bit8) e f.upper) (λ o. o ∷ Address f.upper ∷ []) (λ us e. refl)
same at ws vs f g Addx = λ a. record { some = omega arith; made = refl; told = refl }
same at ws vs f g Shift = λ a. record { some = omega arith; made = refl; told = refl }
same at ws vs f g ShiftMemory = same_one at ws vs f g Two refl (Instr.ShiftMemory (shift_op f.upper) (f.bit8 == 1)) (λ o. o ∷ []) (λ us e. refl)
same at ws vs f g Illegal = refl
same at ws vs f g Privileged = refl
same at ws vs f g LineA = refl
same at ws vs f g LineF = refl
