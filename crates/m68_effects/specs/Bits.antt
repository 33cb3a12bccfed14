-- Single bits (M68000 Family Programmer's Reference Manual, section 4: BTST, BCHG, BCLR, BSET).
use Rattle.std.specs.Prelude.{ℕ, ◌-◌, ◌*◌, ◌%◌, ◌==◌}
use Rattle.mix_bits.specs.declared.size.Size.{Size}
use Rattle.mix_bits.specs.declared.size.Size.TheVariants.{One, Four}
use Rattle.mix_bits.specs.Digits.{digit_of, digit_replaced}
use Rattle.mix_bits.specs.Sizes.{bytes_of}
use Rattle.mix_bits.specs.Results.{◌>>=◌}
use Rattle.m68_isa.specs.declared.registers.Ccr.{Ccr}
use Rattle.m68_isa.specs.declared.registers.Regs68.{Regs68}
use Rattle.m68_isa.specs.declared.ea.Ea.{Ea}
use Rattle.m68_isa.specs.declared.ea.Ea.TheVariants.{Dn}
use Rattle.m68_isa.specs.declared.instructions.BitOp.{BitOp}
use Rattle.m68_isa.specs.declared.instructions.BitOp.TheVariants.{Btst, Bchg, Bclr, Bset}
use Rattle.m68_alu.specs.declared.sums.Out.{Out}
use Rattle.big_memory.specs.Memory.{Memory}
use Rattle.m68_ea.specs.Operands.{sourced}
use Rattle.m68_effects.specs.Parts.{Effect, goes_on, with_ccr, changed}

-- a bit of a long in a data register, else of a byte
abbrev pub bit_size : Ea → Size
bit_size (Dn n) = Four
bit_size e = One

-- Z: the bit was 0; no other flag changes
abbrev pub bit_flags : Ccr → ℕ → ℕ → Ccr
bit_flags old v at = record old { z = digit_of v at 1 == 0 }

abbrev pub bit_changed : BitOp → ℕ → ℕ → ℕ
bit_changed Btst v at = v
bit_changed Bchg v at = digit_replaced v at 1 (1 - digit_of v at 1)
bit_changed Bclr v at = digit_replaced v at 1 0
bit_changed Bset v at = digit_replaced v at 1 1

abbrev pub bit_result : BitOp → Ccr → ℕ → ℕ → Out
bit_result op old v at = record { value = bit_changed op v at; ccr = bit_flags old v at }

-- BTST of any data operand; BCHG, BCLR, BSET
abbrev pub bit_done : Regs68 → Memory → ℕ → BitOp → Size → ℕ → Ea → Effect
bit_done r m next Btst size at of =
    sourced r m size of >>= λ (q, v).
    goes_on next (with_ccr q (bit_flags r.ccr v at)) m
bit_done r m next op size at to = changed r m next size to (λ d. bit_result op r.ccr d at)

-- the bit with a number, which is taken modulo the bits that there are
abbrev pub bit_by_number : Regs68 → Memory → ℕ → BitOp → ℕ → Ea → Effect
bit_by_number r m next op number to = bit_done r m next op (bit_size to) (number % (8 * bytes_of (bit_size to))) to
