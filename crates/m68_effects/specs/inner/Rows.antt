-- Rows of some instructions by names of their own, and parts of them, as the code has them
-- (M68000 Family Programmer's Reference Manual, section 4).
use Rattle.std.specs.Prelude.{ℕ, ◌+◌, ◌-◌, ◌*◌, ◌/◌, ◌%◌, Bool, List, [], ◌∷◌, map, slice_index}
use Rattle.mix_bits.specs.declared.size.Size.{Size}
use Rattle.mix_bits.specs.declared.size.Size.TheVariants.{Two, Four}
use Rattle.mix_bits.specs.Addresses.{backward, onward}
use Rattle.mix_bits.specs.Results.{◌>>=◌}
use Rattle.mix_bits.specs.Sizes.{bytes_of, sign_extended}
use Rattle.m68_isa.specs.declared.registers.Ccr.{Ccr}
use Rattle.m68_isa.specs.declared.registers.Regs68.{Regs68}
use Rattle.m68_isa.specs.declared.ea.Ea.{Ea}
use Rattle.m68_isa.specs.declared.ea.Ea.TheVariants.{Post}
use Rattle.m68_isa.specs.declared.instructions.ShiftOp.{ShiftOp}
use Rattle.m68_isa.specs.declared.instructions.ShiftCount.{ShiftCount}
use Rattle.m68_alu.specs.Products.{divided, long_divided, long_multiplied, multiplied}
use Rattle.m68_alu.specs.Shifts.{shifted}
use Rattle.m68_alu.specs.Sums.{compared, difference, sum}
use Rattle.big_memory.specs.Memory.{Memory}
use Rattle.m68_ea.specs.Operands.{sourced}
use Rattle.m68_ea.specs.Places.{with_address}
use Rattle.m68_effects.specs.Arithmetic.{dividend_high, extension, long_quotient_into, product_into, quotient_into, with_long}
use Rattle.m68_effects.specs.Bits.{bit_flags}
use Rattle.m68_effects.specs.Multiple.{listed, loaded_along, register_of, span_of, stored_along, stored_down}
use Rattle.m68_effects.specs.Parts.{Effect, changed, goes_on, with_ccr, with_result}
use Rattle.m68_effects.specs.Shifts.{count_of}

-- ADDI, SUBI
abbrev pub addi : Regs68 → Memory → ℕ → Size → ℕ → Ea → Effect
addi r m next size value to = changed r m next size to (λ d. sum size d value)

abbrev pub subi : Regs68 → Memory → ℕ → Size → ℕ → Ea → Effect
subi r m next size value to = changed r m next size to (λ d. difference size d value)

-- a comparison, which leaves X: CMP, CMPA, CMPI, CMPM
abbrev pub comparison : Size → Ccr → ℕ → ℕ → Ccr
comparison size old d s = (compared size old d s).ccr

abbrev pub cmp : Regs68 → Memory → ℕ → Size → Ea → ℕ → Effect
cmp r m next size with n =
    sourced r m size with >>= λ (q, s).
    goes_on next (with_ccr q (comparison size r.ccr (slice_index q.d n) s)) m

abbrev pub cmpa : Regs68 → Memory → ℕ → Size → Ea → ℕ → Effect
cmpa r m next size with n =
    sourced r m size with >>= λ (q, s).
    goes_on next (with_ccr q (comparison Four r.ccr (slice_index q.a n) (sign_extended s size))) m

abbrev pub cmpi : Regs68 → Memory → ℕ → Size → ℕ → Ea → Effect
cmpi r m next size value to =
    sourced r m size to >>= λ (q, d).
    goes_on next (with_ccr q (comparison size r.ccr d value)) m

abbrev pub cmpm : Regs68 → Memory → ℕ → Size → ℕ → ℕ → Effect
cmpm r m next size from to =
    sourced r m size (Post from) >>= λ (q, s).
    sourced q m size (Post to) >>= λ (t, d).
    goes_on next (with_ccr t (comparison size r.ccr d s)) m

-- EXT, EXTB
abbrev pub ext : Regs68 → Memory → ℕ → Size → Size → ℕ → Effect
ext r m next from to n = goes_on next (with_result r n to (extension from to r.ccr (slice_index r.d n))) m

-- MULS, MULU, DIVS, DIVU by words and by longs
abbrev pub mul : Regs68 → Memory → ℕ → Bool → Ea → ℕ → Effect
mul r m next signed by n =
    sourced r m Two by >>= λ (q, s).
    goes_on next (with_long q n (multiplied signed (slice_index q.d n) s r.ccr)) m

abbrev pub div : Regs68 → Memory → ℕ → Bool → Ea → ℕ → Effect
div r m next signed by n =
    sourced r m Two by >>= λ (q, s).
    quotient_into q m next n (divided signed (slice_index q.d n) s r.ccr)

abbrev pub mul_long : Regs68 → Memory → ℕ → Bool → Bool → Ea → ℕ → ℕ → Effect
mul_long r m next signed wide by high low =
    sourced r m Four by >>= λ (q, s).
    goes_on next (product_into q wide high low (long_multiplied signed wide (slice_index q.d low) s r.ccr)) m

abbrev pub div_long : Regs68 → Memory → ℕ → Bool → Bool → Ea → ℕ → ℕ → Effect
div_long r m next signed wide by high low =
    sourced r m Four by >>= λ (q, s).
    long_quotient_into q m next high low
    (long_divided signed (dividend_high signed wide (slice_index q.d high) (slice_index q.d low)) (slice_index q.d low) s r.ccr)

-- BTST
abbrev pub bit_tested : Regs68 → Memory → ℕ → Size → ℕ → Ea → Effect
bit_tested r m next size at of =
    sourced r m size of >>= λ (q, v).
    goes_on next (with_ccr q (bit_flags r.ccr v at)) m

-- SWAP
abbrev pub halves_swapped : ℕ → ℕ
halves_swapped v = v % 65536 * 65536 + v / 65536

-- the numbers of the sixteen registers
abbrev pub sixteen : List ℕ
sixteen = 0 ∷ 1 ∷ 2 ∷ 3 ∷ 4 ∷ 5 ∷ 6 ∷ 7 ∷ 8 ∷ 9 ∷ 10 ∷ 11 ∷ 12 ∷ 13 ∷ 14 ∷ 15 ∷ []

-- MOVEM to -(An), and to an address
abbrev pub movem_before : Regs68 → Memory → ℕ → Size → ℕ → ℕ → Effect
movem_before r m next size mask base =
    stored_down r.pc m (slice_index r.a base) size (map (λ k. register_of r (15 - k)) (listed mask)) >>= λ n.
    goes_on next (with_address r base (backward (slice_index r.a base) (span_of size mask))) n

abbrev pub movem_onto : Regs68 → Memory → ℕ → Size → ℕ → ℕ → Effect
movem_onto r m next size mask a =
    stored_along r.pc m a (bytes_of size) size (map (register_of r) (listed mask)) >>= λ n.
    goes_on next r n

-- MOVEM from (An)+, and from an address
abbrev pub movem_behind : Regs68 → Memory → ℕ → Size → ℕ → ℕ → Effect
movem_behind r m next size mask base =
    loaded_along r.pc r m (slice_index r.a base) size (listed mask) >>= λ q.
    goes_on next (with_address q base (onward (slice_index r.a base) (span_of size mask))) m

abbrev pub movem_out_of : Regs68 → Memory → ℕ → Size → ℕ → ℕ → Effect
movem_out_of r m next size mask a =
    loaded_along r.pc r m a size (listed mask) >>= λ q.
    goes_on next q m

-- a shift or a rotate of a data register
abbrev pub shift : Regs68 → Memory → ℕ → ShiftOp → Bool → Size → ShiftCount → ℕ → Effect
shift r m next op left size count n =
    goes_on next (with_result r n size (shifted op left size (slice_index r.d n) (count_of r count) r.ccr)) m
