-- Parts of integer arithmetic (M68000 Family Programmer's Reference Manual, section 4: EXT, EXTB, MULS, MULU, DIVS,
-- DIVU, CHK).
use Rattle.std.specs.Prelude.{ℕ, ◌||◌, ◌&&◌, pos, int_lt, Bool, true, false, if◌then◌else◌, Err}
use Rattle.mix_bits.specs.declared.size.Size.{Size}
use Rattle.mix_bits.specs.declared.size.Size.TheVariants.{One, Two, Four}
use Rattle.mix_bits.specs.Signs.{is_negative}
use Rattle.mix_bits.specs.Sizes.{signed_of, sign_extended, truncated}
use Rattle.m68_isa.specs.declared.registers.Ccr.{Ccr}
use Rattle.m68_isa.specs.declared.registers.Regs68.{Regs68}
use Rattle.m68_alu.specs.declared.sums.Out.{Out}
use Rattle.m68_alu.specs.declared.quotients.Quotient.{Quotient}
use Rattle.m68_alu.specs.declared.quotients.Quotient.TheVariants.{ByZero, Overflow, Done}
use Rattle.m68_alu.specs.declared.quotients.LongQuotient.{LongQuotient}
use Rattle.m68_alu.specs.declared.quotients.LongQuotient.TheVariants.{ByZero as LongByZero, Overflow as LongOverflow, Done as LongDone}
use Rattle.m68_alu.specs.declared.products.Wide.{Wide}
use Rattle.m68_alu.specs.Sizes.{result_flags}
use Rattle.big_memory.specs.Memory.{Memory}
use Rattle.m68_ea.specs.Places.{with_data}
use Rattle.m68_effects.specs.Parts.{Effect, goes_on, vector, with_ccr}

-- what is extended to a size: the size of half as many bytes
abbrev pub half : Size → Size
half Four = Two
half _ = One

abbrev pub extension : Size → Size → Ccr → ℕ → Out
extension from to old v =
    let extended = truncated (sign_extended v from) to in
    record { value = extended; ccr = result_flags to extended old }

-- a whole data register and the condition codes take a result
abbrev pub with_long : Regs68 → ℕ → Out → Regs68
with_long r n out = with_ccr (with_data r n out.value) out.ccr

-- a division of a long by a word: by zero is vector 5, and Dn stays where the quotient is no word
abbrev pub quotient_into : Regs68 → Memory → ℕ → ℕ → Quotient → Effect
quotient_into q m next n ByZero = Err (vector q 5)
quotient_into q m next n (Overflow ccr) = goes_on next (with_ccr q ccr) m
quotient_into q m next n (Done out) = goes_on next (with_long q n out) m

-- two data registers and the condition codes take a result, its high part first: one register for both ends with
-- the low part
abbrev pub with_pair : Regs68 → ℕ → ℕ → Wide → Regs68
with_pair r high low out = with_ccr (with_data (with_data r high out.high) low out.low) out.ccr

-- a product of longs, of which all 64 bits are taken, or the low long
abbrev pub product_into : Regs68 → Bool → ℕ → ℕ → Wide → Regs68
product_into r true high low out = with_pair r high low out
product_into r false high low out = with_ccr (with_data r low out.low) out.ccr

-- a division by a long: by zero is vector 5, and both registers stay where the quotient is no long
abbrev pub long_quotient_into : Regs68 → Memory → ℕ → ℕ → ℕ → LongQuotient → Effect
long_quotient_into q m next high low LongByZero = Err (vector q 5)
long_quotient_into q m next high low (LongOverflow ccr) = goes_on next (with_ccr q ccr) m
long_quotient_into q m next high low (LongDone out) = goes_on next (with_pair q high low out) m

-- the high long of a dividend: that of a dividend that is not wide is the sign of the low one, or zeros
abbrev pub dividend_high : Bool → Bool → ℕ → ℕ → ℕ
dividend_high signed wide high low = if wide then high else (if signed && is_negative Four low then 0xFFFFFFFF else 0)

-- whether a word is negative or greater than a bound
abbrev pub is_out : ℕ → ℕ → Bool
is_out v bound = int_lt (signed_of v Two) (pos 0) || int_lt (signed_of bound Two) (signed_of v Two)
