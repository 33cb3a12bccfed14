-- Each instruction of 68K code leaves memory as it was beside where it stores.
use Rattle.std.proofs.Common.{ℕ, ◌-◌, ◌*◌, ◌%◌, ◌≤◌, ◌==◌, Bool, true, false, if◌then◌else◌, List, length, map, slice_index, arith, refl}
use Rattle.std.specs.Prelude.{bit_or, not}
use Rattle.std.proofs.lemmas.List.{length-map}
use Rattle.std.proofs.lemmas.List.Filters.{length-filter_both}
use Rattle.byteorder.specs.Endian.{big_bytes}
use Rattle.mix_bits.specs.Results.{◌>>=◌}
use Rattle.mix_bits.specs.Digits.{digit_of}
use Rattle.mix_bits.specs.Sizes.{bytes_of}
use Rattle.mix_bits.specs.Addresses.{onward}
use Rattle.mix_bits.specs.declared.size.Size.{Size}
use Rattle.mix_bits.specs.declared.size.Size.TheVariants.{Zero, One, Two, Four}
use Rattle.big_memory.specs.Memory.{Memory}
use Rattle.big_memory.specs.Stores.{stored_value}
use Rattle.m68_isa.specs.declared.registers.Regs68.{Regs68}
use Rattle.m68_isa.specs.declared.ea.Ea.{Ea}
use Rattle.m68_isa.specs.declared.ea.Ea.TheVariants.{Dn, An, Ind, Post, Pre, Disp, Indexed, AbsWord, AbsLong, PcDisp, PcIndexed, Imm}
use Rattle.m68_isa.specs.declared.instructions.BitOp.{BitOp}
use Rattle.m68_isa.specs.declared.instructions.BitOp.TheVariants.{Btst, Bchg, Bclr, Bset}
use Rattle.m68_isa.specs.Conditions.{holds}
use Rattle.m68_isa.specs.Targets.{branch_target}
use Rattle.m68_isa.specs.declared.instructions.Exchange.{Exchange}
use Rattle.m68_isa.specs.declared.instructions.Exchange.TheVariants.{Data, Address, DataAddress}
use Rattle.m68_isa.specs.declared.instructions.ImmediateOp.{ImmediateOp}
use Rattle.m68_isa.specs.declared.instructions.ImmediateOp.TheVariants.{Ori, Andi, Subi, Addi, Eori, Cmpi}
use Rattle.m68_isa.specs.declared.instructions.PlainOp.TheVariants.{Nop, Rts}
use Rattle.m68_isa.specs.declared.instructions.JumpOp.TheVariants.{Jsr, Jmp}
use Rattle.m68_isa.specs.declared.instructions.QuickOp.TheVariants.{Addq, Subq}
use Rattle.m68_isa.specs.declared.instructions.Instr68.{Instr68}
use Rattle.m68_isa.specs.declared.instructions.Instr68.TheVariants.{Immediate, ImmediateToCcr, BitByRegister, BitByNumber, Movep, Move, Movea, Negx, Clr, Neg, Not, MoveFromSr, MoveToCcr, Nbcd, Swap, Pea, Ext, ExtByte, MovemToMemory, MovemFromMemory, MulLong, DivLong, Tst, Tas, Trap, Link, LinkLong, Unlk, Plain, Rtd, Trapv, Rtr, Jump, Chk, Lea, Quick, Scc, Dbcc, Bcc, BccLong, Moveq, Or, Div, Sbcd, Sub, Suba, Subx, Cmp, Cmpa, Eor, Cmpm, And, Mul, Abcd, Exg, Add, Adda, Addx, Shift, ShiftMemory}
use Rattle.m68_isa.specs.declared.instructions.LogicOp.TheVariants.{And as WithAnd, Or as WithOr}
use Rattle.m68_alu.specs.Logical.{combination}
use Rattle.m68_alu.specs.Products.{divided}
use Rattle.m68_alu.specs.Sizes.{result_flags}
use Rattle.m68_alu.specs.Sums.{difference, sum}
use Rattle.m68_alu.specs.declared.quotients.Quotient.{Quotient}
use Rattle.m68_alu.specs.declared.quotients.Quotient.TheVariants.{ByZero, Overflow, Done}
use Rattle.m68_alu.specs.declared.quotients.LongQuotient.{LongQuotient}
use Rattle.m68_alu.specs.declared.quotients.LongQuotient.TheVariants.{ByZero as LongByZero, Overflow as LongOverflow, Done as LongDone}
use Rattle.m68_ea.specs.Places.{address_of, placed, with_address}
use Rattle.mix_bits.specs.Addresses.{backward}
use Rattle.m68_ea.specs.Operands.{put_into, sourced, stored_at}
use Rattle.m68_effects.specs.Arithmetic.{is_out, long_quotient_into, quotient_into}
use Rattle.m68_effects.specs.Bits.{bit_done, bit_size}
use Rattle.m68_effects.specs.Control.{bcc, called, counted}
use Rattle.m68_effects.specs.Movement.{link}
use Rattle.m68_effects.specs.Multiple.{listed, loaded_along, peripheral_number, register_of, stored_along, stored_down}
use Rattle.m68_effects.specs.Parts.{Effect, goes_on, popped}
use Rattle.m68_effects.specs.Rows.{effect}
use Rattle.m68_effects.specs.inner.Rows.{movem_before, movem_behind, movem_onto, movem_out_of, sixteen}
use Rattle.mix_reach.specs.laws.Ranges.{Beside, nothing, range}
use Rattle.mix_reach.specs.laws.Rows68.{behind, below, branches, into, links, pushes, several, stores}
use Rattle.mix_reach.proofs.Leaving.{IsShort, Leaves, stores as one-store}
use Rattle.mix_reach.proofs.Effects68.{Kept, Reaches, along-still, changes, down-still, either, either-way, ends, from-source, pairs, put, reads, refused, still, stored-along, stored-down, stored-left, stored-then, writes}

-- a value that is put at its destination, and then the program goes on
put-then : (r : Regs68) (m : Memory) (size : Size) (to : Ea) (v : ℕ) (f : Regs68 × Memory → Effect)
    → ((q : Regs68) (n : Memory) → Beside (into r size to) m.bytes n.bytes → Kept (into r size to) m (f (q, n))) → Kept (into r size to) m (put_into r m size to v >>= f)
put-then r m size to v f each = writes (into r size to) m (put_into r m size to v) f (put r m size to v) each

calls : (r : Regs68) (m : Memory) (next target : ℕ) → Kept (pushes r) m (called r m next target)
calls r m next target = put-then r m Four (Pre 7) next _ (λ q n beside. ends (pushes r) m _ n beside)

-- bits
bits : (r : Regs68) (m : Memory) (next : ℕ) (op : BitOp) (size : Size) (at : ℕ) (to : Ea) → Kept (into r size to) m (bit_done r m next op size at to)
bits r m next Btst size at to = reads (into r size to) m (sourced r m size to) _ (λ p. still (into r size to) m _)
bits r m next Bchg size at to = changes r m next size to _
bits r m next Bclr size at to = changes r m next size to _
bits r m next Bset size at to = changes r m next size to _

-- an address register is changed without a store
add-quick : (r : Regs68) (m : Memory) (next : ℕ) (size : Size) (number : ℕ) (to : Ea) → Kept (into r size to) m (effect r m next (Quick Addq size number to))
add-quick r m next size number (An n) = still nothing m _
add-quick r m next size number (Dn n) = changes r m next size (Dn n) (λ d. sum size d number)
add-quick r m next size number (Ind n) = changes r m next size (Ind n) (λ d. sum size d number)
add-quick r m next size number (Post n) = changes r m next size (Post n) (λ d. sum size d number)
add-quick r m next size number (Pre n) = changes r m next size (Pre n) (λ d. sum size d number)
add-quick r m next size number (Disp n d) = changes r m next size (Disp n d) (λ d. sum size d number)
add-quick r m next size number (Indexed n i) = changes r m next size (Indexed n i) (λ d. sum size d number)
add-quick r m next size number (AbsWord a) = changes r m next size (AbsWord a) (λ d. sum size d number)
add-quick r m next size number (AbsLong a) = changes r m next size (AbsLong a) (λ d. sum size d number)
add-quick r m next size number (PcDisp at d) = changes r m next size (PcDisp at d) (λ d. sum size d number)
add-quick r m next size number (PcIndexed at i) = changes r m next size (PcIndexed at i) (λ d. sum size d number)
add-quick r m next size number (Imm v) = changes r m next size (Imm v) (λ d. sum size d number)

subtract-quick : (r : Regs68) (m : Memory) (next : ℕ) (size : Size) (number : ℕ) (to : Ea) → Kept (into r size to) m (effect r m next (Quick Subq size number to))
subtract-quick r m next size number (An n) = still nothing m _
subtract-quick r m next size number (Dn n) = changes r m next size (Dn n) (λ d. difference size d number)
subtract-quick r m next size number (Ind n) = changes r m next size (Ind n) (λ d. difference size d number)
subtract-quick r m next size number (Post n) = changes r m next size (Post n) (λ d. difference size d number)
subtract-quick r m next size number (Pre n) = changes r m next size (Pre n) (λ d. difference size d number)
subtract-quick r m next size number (Disp n d) = changes r m next size (Disp n d) (λ d. difference size d number)
subtract-quick r m next size number (Indexed n i) = changes r m next size (Indexed n i) (λ d. difference size d number)
subtract-quick r m next size number (AbsWord a) = changes r m next size (AbsWord a) (λ d. difference size d number)
subtract-quick r m next size number (AbsLong a) = changes r m next size (AbsLong a) (λ d. difference size d number)
subtract-quick r m next size number (PcDisp at d) = changes r m next size (PcDisp at d) (λ d. difference size d number)
subtract-quick r m next size number (PcIndexed at i) = changes r m next size (PcIndexed at i) (λ d. difference size d number)
subtract-quick r m next size number (Imm v) = changes r m next size (Imm v) (λ d. difference size d number)

-- several registers
few-listed : (mask : ℕ) → length (listed mask) ≤ 16
unfolding listed
few-listed mask = omega (arith, length-filter_both (λ k. digit_of mask k 1 == 1) (λ k. not (digit_of mask k 1 == 1)) (λ k. refl) sixteen)

few-registers : (r : Regs68) (mask : ℕ) → 4 * length (map (register_of r) (listed mask)) ≤ 64
few-registers r mask = let few = few-listed mask in omega (arith, length-map (listed mask) (register_of r), few)

upwards : (r : Regs68) (m : Memory) (size : Size) (a : ℕ) (vs : List ℕ) → IsShort m → 4 * length vs ≤ 64 → Leaves (range a 64) m (stored_along r.pc m a (bytes_of size) size vs)
upwards r m Zero a vs short few = along-still (range a 64) r.pc m a 0 vs
upwards r m One a vs short few = stored-along (range a 64) r.pc m a 1 One vs short (omega arith) (omega arith) (omega arith) (omega (arith, few))
upwards r m Two a vs short few = stored-along (range a 64) r.pc m a 2 Two vs short (omega arith) (omega arith) (omega arith) (omega (arith, few))
upwards r m Four a vs short few = stored-along (range a 64) r.pc m a 4 Four vs short (omega arith) (omega arith) (omega arith) (omega (arith, few))

onto : (r : Regs68) (m : Memory) (next : ℕ) (size : Size) (mask a : ℕ) → IsShort m → Kept (range a 64) m (movem_onto r m next size mask a)
onto r m next size mask a short =
    stored-then (range a 64) m (stored_along r.pc m a (bytes_of size) size (map (register_of r) (listed mask))) _
    (upwards r m size a (map (register_of r) (listed mask)) short (few-registers r mask)) (λ n beside. ends (range a 64) m _ n beside)

reaches-below : (x len b count : ℕ) → 4 * count ≤ 64 → Reaches (below x) len b count x
reaches-below x len b count few = record { low = λ within. omega (arith, few); high = λ within. omega arith }

downwards : (r : Regs68) (m : Memory) (size : Size) (a : ℕ) (vs : List ℕ) → IsShort m → 4 * length vs ≤ 64 → Leaves (below (backward a (bytes_of size))) m (stored_down r.pc m a size vs)
downwards r m Zero a vs short few = down-still (below (backward a 0)) r.pc m a vs
downwards r m One a vs short few = stored-down (below (backward a 1)) r.pc m a One vs short (omega arith) (reaches-below (backward a 1) (length m.bytes) 1 (length vs) few)
downwards r m Two a vs short few = stored-down (below (backward a 2)) r.pc m a Two vs short (omega arith) (reaches-below (backward a 2) (length m.bytes) 2 (length vs) few)
downwards r m Four a vs short few = stored-down (below (backward a 4)) r.pc m a Four vs short (omega arith) (reaches-below (backward a 4) (length m.bytes) 4 (length vs) few)

few-before : (r : Regs68) (mask : ℕ) → 4 * length (map (λ k. register_of r (15 - k)) (listed mask)) ≤ 64
few-before r mask = let few = few-listed mask in omega (arith, length-map (listed mask) (λ k. register_of r (15 - k)), few)

before : (r : Regs68) (m : Memory) (next : ℕ) (size : Size) (mask base : ℕ) → IsShort m → Kept (several r size (Pre base)) m (movem_before r m next size mask base)
before r m next size mask base short =
    stored-then (several r size (Pre base)) m (stored_down r.pc m (slice_index r.a base) size (map (λ k. register_of r (15 - k)) (listed mask))) _
    (downwards r m size (slice_index r.a base) (map (λ k. register_of r (15 - k)) (listed mask)) short (few-before r mask))
    (λ n beside. ends (several r size (Pre base)) m _ n beside)

to-memory : (r : Regs68) (m : Memory) (next : ℕ) (size : Size) (mask : ℕ) (to : Ea) → IsShort m → Kept (several r size to) m (effect r m next (MovemToMemory size mask to))
to-memory r m next size mask (Pre base) short = before r m next size mask base short
to-memory r m next size mask (An n) short = onto r m next size mask (address_of r (An n)) short
to-memory r m next size mask (Dn n) short = onto r m next size mask (address_of r (Dn n)) short
to-memory r m next size mask (Ind n) short = onto r m next size mask (address_of r (Ind n)) short
to-memory r m next size mask (Post n) short = onto r m next size mask (address_of r (Post n)) short
to-memory r m next size mask (Disp n d) short = onto r m next size mask (address_of r (Disp n d)) short
to-memory r m next size mask (Indexed n i) short = onto r m next size mask (address_of r (Indexed n i)) short
to-memory r m next size mask (AbsWord a) short = onto r m next size mask (address_of r (AbsWord a)) short
to-memory r m next size mask (AbsLong a) short = onto r m next size mask (address_of r (AbsLong a)) short
to-memory r m next size mask (PcDisp at d) short = onto r m next size mask (address_of r (PcDisp at d)) short
to-memory r m next size mask (PcIndexed at i) short = onto r m next size mask (address_of r (PcIndexed at i)) short
to-memory r m next size mask (Imm v) short = onto r m next size mask (address_of r (Imm v)) short

behind-loads : (r : Regs68) (m : Memory) (next : ℕ) (size : Size) (mask base : ℕ) → Kept nothing m (movem_behind r m next size mask base)
behind-loads r m next size mask base = reads nothing m (loaded_along r.pc r m (slice_index r.a base) size (listed mask)) _ (λ q. still nothing m _)

out-of : (r : Regs68) (m : Memory) (next : ℕ) (size : Size) (mask a : ℕ) → Kept nothing m (movem_out_of r m next size mask a)
out-of r m next size mask a = reads nothing m (loaded_along r.pc r m a size (listed mask)) _ (λ q. still nothing m _)

from-memory : (r : Regs68) (m : Memory) (next : ℕ) (size : Size) (mask : ℕ) (from : Ea) → Kept nothing m (effect r m next (MovemFromMemory size mask from))
from-memory r m next size mask (Post base) = behind-loads r m next size mask base
from-memory r m next size mask (Pre n) = out-of r m next size mask (address_of r (Pre n))
from-memory r m next size mask (An n) = out-of r m next size mask (address_of r (An n))
from-memory r m next size mask (Dn n) = out-of r m next size mask (address_of r (Dn n))
from-memory r m next size mask (Ind n) = out-of r m next size mask (address_of r (Ind n))
from-memory r m next size mask (Disp n d) = out-of r m next size mask (address_of r (Disp n d))
from-memory r m next size mask (Indexed n i) = out-of r m next size mask (address_of r (Indexed n i))
from-memory r m next size mask (AbsWord a) = out-of r m next size mask (address_of r (AbsWord a))
from-memory r m next size mask (AbsLong a) = out-of r m next size mask (address_of r (AbsLong a))
from-memory r m next size mask (PcDisp at d) = out-of r m next size mask (address_of r (PcDisp at d))
from-memory r m next size mask (PcIndexed at i) = out-of r m next size mask (address_of r (PcIndexed at i))
from-memory r m next size mask (Imm v) = out-of r m next size mask (address_of r (Imm v))

length-digits : (size : Size) (v : ℕ) → length (big_bytes (bytes_of size) v) ≤ 4
length-digits Zero v = omega arith
length-digits One v = omega arith
length-digits Two v = omega arith
length-digits Four v = omega arith

peripheral : (r : Regs68) (m : Memory) (next : ℕ) (size : Size) (to_memory : Bool) (n base disp : ℕ) → IsShort m → Kept (range (onward (slice_index r.a base) disp) 16) m (effect r m next (Movep size to_memory n base disp))
peripheral r m next size true n base disp short =
    let a = onward (slice_index r.a base) disp in
    let few = length-digits size (slice_index r.d n) in
    stored-then (range a 16) m (stored_along r.pc m a 2 One (big_bytes (bytes_of size) (slice_index r.d n))) _
    (stored-along (range a 16) r.pc m a 2 One (big_bytes (bytes_of size) (slice_index r.d n)) short (omega arith) (omega arith) (omega arith) (omega (arith, few)))
    (λ k beside. ends (range a 16) m _ k beside)
peripheral r m next size false n base disp short =
    let a = onward (slice_index r.a base) disp in
    reads (range a 16) m (peripheral_number r.pc m a (bytes_of size) 0) _ (λ v. still (range a 16) m _)

-- quotients
quotients : (q : Regs68) (m : Memory) (next n : ℕ) (x : Quotient) → Kept nothing m (quotient_into q m next n x)
quotients q m next n ByZero = refused nothing m _
quotients q m next n (Overflow ccr) = still nothing m _
quotients q m next n (Done out) = still nothing m _

long-quotients : (q : Regs68) (m : Memory) (next high low : ℕ) (x : LongQuotient) → Kept nothing m (long_quotient_into q m next high low x)
long-quotients q m next high low LongByZero = refused nothing m _
long-quotients q m next high low (LongOverflow ccr) = still nothing m _
long-quotients q m next high low (LongDone out) = still nothing m _

moved : (r : Regs68) (m : Memory) (next : ℕ) (size : Size) (from to : Ea) → Kept (behind r size from to) m (effect r m next (Move size from to))
moved r m next size from to =
    from-source (behind r size from to) r m size from _
    (λ v. put-then (placed r from size).0 m size to v _ (λ q n beside. ends (behind r size from to) m _ n beside))

linked : (r : Regs68) (m : Memory) (next n disp : ℕ) → Kept (links r) m (link r m next n disp)
linked r m next n disp =
    let q : Regs68 = (placed r (Pre 7) Four).0 in
    let sp : ℕ = slice_index q.a 7 in
    stored-then (range sp 4) m (stored_at r.pc m sp Four (slice_index q.a n)) _
    (stored-left r.pc m sp Four (stored_value m sp Four (slice_index q.a n)) (one-store m sp Four (slice_index q.a n)))
    (λ k beside. ends (range sp 4) m _ k beside)

branches-keep : (r : Regs68) (m : Memory) (next condition disp : ℕ) → Kept (branches r condition) m (bcc r m next condition disp)
branches-keep r m next condition disp = by-test (condition == 1)
  where
    target : ℕ
    target = branch_target r.pc disp

    by-test : (b : Bool) → Kept (if b then pushes r else nothing) m
        (if b then called r m next (branch_target r.pc disp) else (if holds condition r.ccr then goes_on (branch_target r.pc disp) r m else goes_on next r m))
    by-test true = calls r m next (branch_target r.pc disp)
    by-test false = either nothing m (holds condition r.ccr) _ _ (still nothing m _) (still nothing m _)

counts : (r : Regs68) (m : Memory) (next condition n disp : ℕ) → Kept nothing m (effect r m next (Dbcc condition n disp))
counts r m next condition n disp =
    either nothing m (holds condition r.ccr) _ _ (still nothing m _) (either nothing m (counted r n == 0xFFFF) _ _ (still nothing m _) (still nothing m _))

exchanged : (r : Regs68) (m : Memory) (next : ℕ) (kind : Exchange) (x y : ℕ) → Kept nothing m (effect r m next (Exg kind x y))
exchanged r m next Data x y = still nothing m _
exchanged r m next Address x y = still nothing m _
exchanged r m next DataAddress x y = still nothing m _

immediates : (r : Regs68) (m : Memory) (next : ℕ) (op : ImmediateOp) (size : Size) (value : ℕ) (to : Ea) → Kept (into r size to) m (effect r m next (Immediate op size value to))
immediates r m next Ori size value to = changes r m next size to _
immediates r m next Andi size value to = changes r m next size to _
immediates r m next Subi size value to = changes r m next size to _
immediates r m next Addi size value to = changes r m next size to _
immediates r m next Eori size value to = changes r m next size to _
immediates r m next Cmpi size value to = reads (into r size to) m (sourced r m size to) _ (λ p. still (into r size to) m _)

pub rows : (r : Regs68) (m : Memory) (next : ℕ) (i : Instr68) → IsShort m → Kept (stores r i) m (effect r m next i)
rows r m next (Immediate op size value to) short = immediates r m next op size value to
rows r m next (ImmediateToCcr op value) short = still nothing m _
rows r m next (BitByRegister op register to) short = bits r m next op (bit_size to) (slice_index r.d register % (8 * bytes_of (bit_size to))) to
rows r m next (BitByNumber op bit to) short = bits r m next op (bit_size to) (bit % (8 * bytes_of (bit_size to))) to
rows r m next (Movep size to_memory register base disp) short = peripheral r m next size to_memory register base disp short
rows r m next (Move size from to) short = moved r m next size from to
rows r m next (Movea size from to) short = reads nothing m (sourced r m size from) _ (λ p. still nothing m _)
rows r m next (Negx size to) short = changes r m next size to _
rows r m next (Clr size to) short = put-then r m size to 0 _ (λ q n beside. ends (into r size to) m _ n beside)
rows r m next (Neg size to) short = changes r m next size to _
rows r m next (Not size to) short = changes r m next size to _
rows r m next (MoveFromSr to) short = put-then r m Two to _ _ (λ q n beside. ends (into r Two to) m _ n beside)
rows r m next (MoveToCcr from) short = reads nothing m (sourced r m Two from) _ (λ p. still nothing m _)
rows r m next (Nbcd to) short = changes r m next One to _
rows r m next (Swap register) short = still nothing m _
rows r m next (Pea from) short = put-then r m Four (Pre 7) _ _ (λ q n beside. ends (pushes r) m _ n beside)
rows r m next (Ext size register) short = still nothing m _
rows r m next (ExtByte register) short = still nothing m _
rows r m next (MovemToMemory size mask to) short = to-memory r m next size mask to short
rows r m next (MovemFromMemory size mask from) short = from-memory r m next size mask from
rows r m next (MulLong signed wide by high low) short = reads nothing m (sourced r m Four by) _ (λ p. still nothing m _)
rows r m next (DivLong signed wide by high low) short = reads nothing m (sourced r m Four by) _ (λ p. long-quotients p.0 m next high low _)
rows r m next (Tst size of) short = reads nothing m (sourced r m size of) _ (λ p. still nothing m _)
rows r m next (Tas to) short = changes r m next One to (λ d. record { value = bit_or d 0x80; ccr = result_flags One d r.ccr })
rows r m next (Trap number) short = refused nothing m _
rows r m next (Link register disp) short = linked r m next register disp
rows r m next (LinkLong register disp) short = linked r m next register disp
rows r m next (Unlk register) short = reads nothing m (popped (with_address r 7 (slice_index r.a register)) m Four) _ (λ p. still nothing m _)
rows r m next (Plain Nop) short = still nothing m _
rows r m next (Plain Rts) short = reads nothing m (popped r m Four) _ (λ p. still nothing m _)
rows r m next (Rtd disp) short = reads nothing m (popped r m Four) _ (λ p. still nothing m _)
rows r m next Trapv short = either nothing m r.ccr.v _ _ (refused nothing m _) (still nothing m _)
rows r m next Rtr short = reads nothing m (popped r m Two) _ (λ p. reads nothing m (popped p.0 m Four) _ (λ t. still nothing m _))
rows r m next (Jump Jsr to) short = calls r m next (address_of r to)
rows r m next (Jump Jmp to) short = still nothing m _
rows r m next (Chk bound register) short = reads nothing m (sourced r m Two bound) _ (λ p. either nothing m (is_out (slice_index p.0.d register) p.1) _ _ (refused nothing m _) (still nothing m _))
rows r m next (Lea from to) short = still nothing m _
rows r m next (Quick Addq size number to) short = add-quick r m next size number to
rows r m next (Quick Subq size number to) short = subtract-quick r m next size number to
rows r m next (Scc condition to) short = put-then r m One to _ _ (λ q n beside. ends (into r One to) m _ n beside)
rows r m next (Dbcc condition register disp) short = counts r m next condition register disp
rows r m next (Bcc condition disp) short = branches-keep r m next condition disp
rows r m next (BccLong condition disp) short = branches-keep r m next condition disp
rows r m next (Moveq value to) short = still nothing m _
rows r m next (Or size to_memory register operand) short = either-way r m next size to_memory register operand (combination WithOr size r.ccr)
rows r m next (Div signed by register) short = reads nothing m (sourced r m Two by) _ (λ p. quotients p.0 m next register (divided signed (slice_index p.0.d register) p.1 r.ccr))
rows r m next (Sbcd memory from to) short = pairs r m next One memory from to _
rows r m next (Sub size to_memory register operand) short = either-way r m next size to_memory register operand (difference size)
rows r m next (Suba size from to) short = reads nothing m (sourced r m size from) _ (λ p. still nothing m _)
rows r m next (Subx size memory from to) short = pairs r m next size memory from to _
rows r m next (Cmp size with register) short = reads nothing m (sourced r m size with) _ (λ p. still nothing m _)
rows r m next (Cmpa size with register) short = reads nothing m (sourced r m size with) _ (λ p. still nothing m _)
rows r m next (Eor size register to) short = changes r m next size to _
rows r m next (Cmpm size from to) short = reads nothing m (sourced r m size (Post from)) _ (λ p. reads nothing m (sourced p.0 m size (Post to)) _ (λ t. still nothing m _))
rows r m next (And size to_memory register operand) short = either-way r m next size to_memory register operand (combination WithAnd size r.ccr)
rows r m next (Mul signed by register) short = reads nothing m (sourced r m Two by) _ (λ p. still nothing m _)
rows r m next (Abcd memory from to) short = pairs r m next One memory from to _
rows r m next (Exg kind upper lower) short = exchanged r m next kind upper lower
rows r m next (Add size to_memory register operand) short = either-way r m next size to_memory register operand (sum size)
rows r m next (Adda size from to) short = reads nothing m (sourced r m size from) _ (λ p. still nothing m _)
rows r m next (Addx size memory from to) short = pairs r m next size memory from to _
rows r m next (Shift op left size count register) short = still nothing m _
rows r m next (ShiftMemory op left to) short = changes r m next Two to _
