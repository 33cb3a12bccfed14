-- What each instruction does, at the registers and the memory before it; `next` is the address behind its
-- words (M68000 Family Programmer's Reference Manual, section 4).
use Rattle.std.specs.Prelude.{ℕ, ◌+◌, ◌*◌, ◌-◌, ◌/◌, ◌%◌, ◌==◌, bit_or, false, if◌then◌else◌, map, slice_index, Err}
use Rattle.byteorder.specs.Endian.{big_bytes}
use Rattle.mix_bits.specs.declared.size.Size.TheVariants.{One, Two, Four}
use Rattle.mix_bits.specs.Addresses.{backward, onward}
use Rattle.mix_bits.specs.Results.{◌>>=◌}
use Rattle.mix_bits.specs.Sizes.{bytes_of, sign_extended}
use Rattle.m68_isa.specs.Conditions.{holds}
use Rattle.m68_isa.specs.Registers.{ccr_bits, ccr_of}
use Rattle.m68_isa.specs.Targets.{branch_target}
use Rattle.m68_isa.specs.declared.registers.Regs68.{Regs68}
use Rattle.m68_isa.specs.declared.ea.Ea.TheVariants.{An, Post, Pre}
use Rattle.m68_isa.specs.declared.instructions.Exchange.TheVariants.{Data, Address, DataAddress}
use Rattle.m68_isa.specs.declared.instructions.ImmediateOp.TheVariants.{Ori, Andi, Subi, Addi, Eori, Cmpi}
use Rattle.m68_isa.specs.declared.instructions.LogicOp.TheVariants.{And as WithAnd, Or as WithOr, Eor as WithEor}
use Rattle.m68_isa.specs.declared.instructions.PlainOp.TheVariants.{Nop, Rts}
use Rattle.m68_isa.specs.declared.instructions.JumpOp.TheVariants.{Jsr, Jmp}
use Rattle.m68_isa.specs.declared.instructions.QuickOp.TheVariants.{Addq, Subq}
use Rattle.m68_isa.specs.declared.instructions.Instr68.{Instr68}
use Rattle.m68_isa.specs.declared.instructions.Instr68.TheVariants.{Immediate, ImmediateToCcr, BitByRegister, BitByNumber, Movep, Move, Movea, Negx, Clr, Neg, Not, MoveFromSr, MoveToCcr, Nbcd, Swap, Pea, Ext, ExtByte, MovemToMemory, MovemFromMemory, MulLong, DivLong, Tst, Tas, Trap, Link, LinkLong, Unlk, Plain, Rtd, Trapv, Rtr, Jump, Chk, Lea, Quick, Scc, Dbcc, Bcc, BccLong, Moveq, Or, Div, Sbcd, Sub, Suba, Subx, Cmp, Cmpa, Eor, Cmpm, And, Mul, Abcd, Exg, Add, Adda, Addx, Shift, ShiftMemory}
use Rattle.m68_alu.specs.Decimal.{decimal_added, decimal_subtracted}
use Rattle.m68_alu.specs.Logical.{bits_of, combination}
use Rattle.m68_alu.specs.Products.{divided, long_divided, long_multiplied, multiplied}
use Rattle.m68_alu.specs.Shifts.{shifted}
use Rattle.m68_alu.specs.Sizes.{result_flags}
use Rattle.m68_alu.specs.Sums.{compared, difference, difference_with_x, sum, sum_with_x}
use Rattle.big_memory.specs.Memory.{Memory}
use Rattle.m68_ea.specs.Places.{address_of, with_address, with_data}
use Rattle.m68_ea.specs.Operands.{put_into, sourced}
use Rattle.m68_effects.specs.Arithmetic.{dividend_high, extension, half, is_out, long_quotient_into, product_into, quotient_into, with_long}
use Rattle.m68_effects.specs.Bits.{bit_by_number}
use Rattle.m68_effects.specs.Control.{bcc, called, counted}
use Rattle.m68_effects.specs.Logic.{complement}
use Rattle.m68_effects.specs.Movement.{link}
use Rattle.m68_effects.specs.Multiple.{listed, loaded_along, peripheral_number, register_of, span_of, stored_along, stored_down}
use Rattle.m68_effects.specs.Parts.{Effect, changed, either_way, goes_on, pairwise, popped, pushed, vector, with_ccr, with_low_data, with_result}
use Rattle.m68_effects.specs.Shifts.{count_of}

abbrev pub effect : Regs68 → Memory → ℕ → Instr68 → Effect
-- ORI, ANDI, SUBI, ADDI, EORI: destination op immediate data → destination; CMPI: destination - immediate data
effect r m next (Immediate Ori size value to) = changed r m next size to (λ d. combination WithOr size r.ccr d value)
effect r m next (Immediate Andi size value to) = changed r m next size to (λ d. combination WithAnd size r.ccr d value)
effect r m next (Immediate Subi size value to) = changed r m next size to (λ d. difference size d value)
effect r m next (Immediate Addi size value to) = changed r m next size to (λ d. sum size d value)
effect r m next (Immediate Eori size value to) = changed r m next size to (λ d. combination WithEor size r.ccr d value)
effect r m next (Immediate Cmpi size value to) =
    sourced r m size to >>= λ (q, d).
    goes_on next (with_ccr q (compared size r.ccr d value).ccr) m
-- ORI, ANDI, EORI to CCR: on its five bits
effect r m next (ImmediateToCcr op value) = goes_on next (with_ccr r (ccr_of (bits_of op (ccr_bits r.ccr) value))) m
-- BTST, BCHG, BCLR, BSET: the bit's number in a data register, or in the instruction
effect r m next (BitByRegister op n to) = bit_by_number r m next op (slice_index r.d n) to
effect r m next (BitByNumber op number to) = bit_by_number r m next op number to
-- MOVEP: bytes at every second address, the highest one first
effect r m next (Movep size to_memory n base disp) =
    let a = onward (slice_index r.a base) disp in
    if to_memory then
    (stored_along r.pc m a 2 One (big_bytes (bytes_of size) (slice_index r.d n)) >>= λ done. goes_on next r done)
    else
    (peripheral_number r.pc m a (bytes_of size) 0 >>= λ v. goes_on next (with_low_data r n size v) m)
-- MOVE: source → destination
effect r m next (Move size from to) =
    sourced r m size from >>= λ (q, v).
    put_into q m size to v >>= λ (t, n).
    goes_on next (with_ccr t (result_flags size v r.ccr)) n
-- MOVEA: source → An, a word with its sign; no flags
effect r m next (Movea size from n) =
    sourced r m size from >>= λ (q, v).
    goes_on next (with_address q n (sign_extended v size)) m
-- NEGX: 0 - destination - X → destination
effect r m next (Negx size to) = changed r m next size to (λ d. difference_with_x size r.ccr 0 d)
-- CLR: 0 → destination
effect r m next (Clr size to) =
    put_into r m size to 0 >>= λ (q, n).
    goes_on next (with_ccr q (result_flags size 0 r.ccr)) n
-- NEG: 0 - destination → destination
effect r m next (Neg size to) = changed r m next size to (λ d. difference size 0 d)
-- NOT: the ones complement of destination → destination
effect r m next (Not size to) = changed r m next size to (complement size r.ccr)
-- MOVE from SR: its high byte, which is the supervisor's, is 0 here
effect r m next (MoveFromSr to) =
    put_into r m Two to (ccr_bits r.ccr) >>= λ (q, n).
    goes_on next q n
-- MOVE to CCR: the low five bits of a word
effect r m next (MoveToCcr from) =
    sourced r m Two from >>= λ (q, v).
    goes_on next (with_ccr q (ccr_of v)) m
-- NBCD: 0 - destination - X → destination, in decimal digits
effect r m next (Nbcd to) = changed r m next One to (λ d. decimal_subtracted 0 d r.ccr)
-- SWAP: bits 31 to 16 ↔ bits 15 to 0
effect r m next (Swap n) =
    let v = slice_index r.d n % 65536 * 65536 + slice_index r.d n / 65536 in
    goes_on next (with_ccr (with_data r n v) (result_flags Four v r.ccr)) m
-- PEA: the address, found with the old SP, is pushed
effect r m next (Pea from) =
    pushed r m (address_of r from) >>= λ (q, n).
    goes_on next q n
-- EXT, EXTB: a byte to a word, a word to a long, or a byte to a long
effect r m next (Ext size n) = goes_on next (with_result r n size (extension (half size) size r.ccr (slice_index r.d n))) m
effect r m next (ExtByte n) = goes_on next (with_result r n Four (extension One Four r.ccr (slice_index r.d n))) m
-- MOVEM registers → destination: from D0 to A7 upwards; for -(An) the mask counts from A7, and the
-- registers go from A7 downwards; a base register that is stored has its old value
effect r m next (MovemToMemory size mask (Pre base)) =
    stored_down r.pc m (slice_index r.a base) size (map (λ k. register_of r (15 - k)) (listed mask)) >>= λ n.
    goes_on next (with_address r base (backward (slice_index r.a base) (span_of size mask))) n
effect r m next (MovemToMemory size mask to) =
    stored_along r.pc m (address_of r to) (bytes_of size) size (map (register_of r) (listed mask)) >>= λ n.
    goes_on next r n
-- MOVEM source → registers: with (An)+ the base ends behind the last value, also where it was loaded
effect r m next (MovemFromMemory size mask (Post base)) =
    loaded_along r.pc r m (slice_index r.a base) size (listed mask) >>= λ q.
    goes_on next (with_address q base (onward (slice_index r.a base) (span_of size mask))) m
effect r m next (MovemFromMemory size mask from) =
    loaded_along r.pc r m (address_of r from) size (listed mask) >>= λ q.
    goes_on next q m
-- MULS.L, MULU.L: source * Dl → Dl, or all 64 bits → Dh and Dl
effect r m next (MulLong signed wide by high low) =
    sourced r m Four by >>= λ (q, s).
    goes_on next (product_into q wide high low (long_multiplied signed wide (slice_index q.d low) s r.ccr)) m
-- DIVS.L, DIVU.L: Dl, or the 64 bits of Dh and Dl, / source → remainder in Dh, quotient in Dl
effect r m next (DivLong signed wide by high low) =
    sourced r m Four by >>= λ (q, s).
    long_quotient_into q m next high low
    (long_divided signed (dividend_high signed wide (slice_index q.d high) (slice_index q.d low)) (slice_index q.d low) s r.ccr)
-- TST: destination - 0
effect r m next (Tst size of) =
    sourced r m size of >>= λ (q, v).
    goes_on next (with_ccr q (result_flags size v r.ccr)) m
-- TAS: the flags tell of the byte before 1 → its bit 7
effect r m next (Tas to) = changed r m next One to (λ d. record { value = bit_or d 0x80; ccr = result_flags One d r.ccr })
-- TRAP: vector 32 and on
effect r m next (Trap number) = Err (vector r (32 + number))
-- LINK, by a word or a long
effect r m next (Link n disp) = link r m next n disp
effect r m next (LinkLong n disp) = link r m next n disp
-- UNLK: An → SP; (SP) → An; SP + 4 → SP, where the long that A7 itself takes stays
effect r m next (Unlk n) =
    popped (with_address r 7 (slice_index r.a n)) m Four >>= λ (q, v).
    goes_on next (with_address q n v) m
-- NOP
effect r m next (Plain Nop) = goes_on next r m
-- RTS: (SP) → PC; SP + 4 → SP
effect r m next (Plain Rts) =
    popped r m Four >>= λ (q, target).
    goes_on target q m
-- RTD: (SP) → PC; SP + 4 + displacement → SP
effect r m next (Rtd disp) =
    popped r m Four >>= λ (q, target).
    goes_on target (with_address q 7 (onward (slice_index q.a 7) disp)) m
-- TRAPV: vector 7 where V
effect r m next Trapv = if r.ccr.v then Err (vector r 7) else goes_on next r m
-- RTR: (SP) → CCR; SP + 2 → SP; (SP) → PC; SP + 4 → SP
effect r m next Rtr =
    popped r m Two >>= λ (q, bits).
    popped q m Four >>= λ (t, target).
    goes_on target (with_ccr t (ccr_of bits)) m
-- JSR, JMP: the address, found with the old SP, → PC
effect r m next (Jump Jsr to) = called r m next (address_of r to)
effect r m next (Jump Jmp to) = goes_on (address_of r to) r m
-- CHK: vector 6 where the word in Dn is negative or greater than the bound; that Z, V and C are cleared
-- and N stays is this project's own
effect r m next (Chk bound n) =
    sourced r m Two bound >>= λ (q, s).
    (if is_out (slice_index q.d n) s then Err (vector q 6)
    else goes_on next (with_ccr q (record r.ccr { z = false; v = false; c = false })) m)
-- LEA: address → An
effect r m next (Lea from n) = goes_on next (with_address r n (address_of r from)) m
-- ADDQ, SUBQ: destination ± 1 to 8 → destination; an address register whole, without flags
effect r m next (Quick Addq size number (An n)) = goes_on next (with_address r n (onward (slice_index r.a n) number)) m
effect r m next (Quick Addq size number to) = changed r m next size to (λ d. sum size d number)
effect r m next (Quick Subq size number (An n)) = goes_on next (with_address r n (backward (slice_index r.a n) number)) m
effect r m next (Quick Subq size number to) = changed r m next size to (λ d. difference size d number)
-- Scc: a byte of ones where the condition holds, else of zeros
effect r m next (Scc condition to) =
    put_into r m One to (if holds condition r.ccr then 0xFF else 0) >>= λ (q, n).
    goes_on next q n
-- DBcc: unless the condition holds, Dn - 1 → Dn, as words, and a branch unless Dn is -1
effect r m next (Dbcc condition n disp) =
    if holds condition r.ccr then goes_on next r m
    else (if counted r n == 0xFFFF then goes_on next (with_low_data r n Two (counted r n)) m
    else goes_on (branch_target r.pc disp) (with_low_data r n Two (counted r n)) m)
-- Bcc, BRA, BSR, by a byte or a word, or by a long
effect r m next (Bcc condition disp) = bcc r m next condition disp
effect r m next (BccLong condition disp) = bcc r m next condition disp
-- MOVEQ: immediate data → Dn
effect r m next (Moveq value n) = goes_on next (with_ccr (with_data r n value) (result_flags Four value r.ccr)) m
-- OR: source ∨ Dn → Dn, or Dn ∨ destination → destination
effect r m next (Or size to_memory n operand) = either_way r m next size to_memory n operand (combination WithOr size r.ccr)
-- DIVS.W, DIVU.W: Dn / source → Dn, a long by a word
effect r m next (Div signed by n) =
    sourced r m Two by >>= λ (q, s).
    quotient_into q m next n (divided signed (slice_index q.d n) s r.ccr)
-- SBCD: destination - source - X → destination, in decimal digits
effect r m next (Sbcd memory from to) = pairwise r m next One memory from to (λ d s. decimal_subtracted d s r.ccr)
-- SUB: Dn - source → Dn, or destination - Dn → destination
effect r m next (Sub size to_memory n operand) = either_way r m next size to_memory n operand (difference size)
-- SUBA: An - source → An, whole, a word with its sign; no flags
effect r m next (Suba size from n) =
    sourced r m size from >>= λ (q, s).
    goes_on next (with_address q n (backward (slice_index q.a n) (sign_extended s size))) m
-- SUBX: destination - source - X → destination
effect r m next (Subx size memory from to) = pairwise r m next size memory from to (difference_with_x size r.ccr)
-- CMP: Dn - source
effect r m next (Cmp size with n) =
    sourced r m size with >>= λ (q, s).
    goes_on next (with_ccr q (compared size r.ccr (slice_index q.d n) s).ccr) m
-- CMPA: An - source, as longs, a word with its sign
effect r m next (Cmpa size with n) =
    sourced r m size with >>= λ (q, s).
    goes_on next (with_ccr q (compared Four r.ccr (slice_index q.a n) (sign_extended s size)).ccr) m
-- EOR: Dn ⊕ destination → destination
effect r m next (Eor size n to) = changed r m next size to (λ d. combination WithEor size r.ccr d (slice_index r.d n))
-- CMPM: (Ay)+ - (Ax)+, the source first
effect r m next (Cmpm size from to) =
    sourced r m size (Post from) >>= λ (q, s).
    sourced q m size (Post to) >>= λ (t, d).
    goes_on next (with_ccr t (compared size r.ccr d s).ccr) m
-- AND: source ∧ Dn → Dn, or Dn ∧ destination → destination
effect r m next (And size to_memory n operand) = either_way r m next size to_memory n operand (combination WithAnd size r.ccr)
-- MULS.W, MULU.W: source * Dn → Dn, words to a long
effect r m next (Mul signed by n) =
    sourced r m Two by >>= λ (q, s).
    goes_on next (with_long q n (multiplied signed (slice_index q.d n) s r.ccr)) m
-- ABCD: source + destination + X → destination, in decimal digits
effect r m next (Abcd memory from to) = pairwise r m next One memory from to (λ d s. decimal_added d s r.ccr)
-- EXG: Rx ↔ Ry
effect r m next (Exg Data x y) = goes_on next (with_data (with_data r x (slice_index r.d y)) y (slice_index r.d x)) m
effect r m next (Exg Address x y) = goes_on next (with_address (with_address r x (slice_index r.a y)) y (slice_index r.a x)) m
effect r m next (Exg DataAddress x y) = goes_on next (with_address (with_data r x (slice_index r.a y)) y (slice_index r.d x)) m
-- ADD: source + Dn → Dn, or Dn + destination → destination
effect r m next (Add size to_memory n operand) = either_way r m next size to_memory n operand (sum size)
-- ADDA: An + source → An, whole, a word with its sign; no flags
effect r m next (Adda size from n) =
    sourced r m size from >>= λ (q, s).
    goes_on next (with_address q n (onward (slice_index q.a n) (sign_extended s size))) m
-- ADDX: destination + source + X → destination
effect r m next (Addx size memory from to) = pairwise r m next size memory from to (sum_with_x size r.ccr)
-- ASL, ASR, LSL, LSR, ROL, ROR, ROXL, ROXR: Dy shifted by a count → Dy
effect r m next (Shift op left size count n) =
    goes_on next (with_result r n size (shifted op left size (slice_index r.d n) (count_of r count) r.ccr)) m
-- the same of a word in memory, by 1
effect r m next (ShiftMemory op left to) = changed r m next Two to (λ d. shifted op left Two d 1 r.ccr)
