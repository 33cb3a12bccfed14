-- An address register that goes onward or backward.
use Rattle.std.specs.Prelude.{ℕ, slice_index}
use Rattle.mix_bits.specs.declared.size.Size.{Size}
use Rattle.mix_bits.specs.Addresses.{onward}
use Rattle.mix_bits.specs.Sizes.{sign_extended}
use Rattle.mix_bits.specs.Results.{◌>>=◌}
use Rattle.m68_isa.specs.declared.registers.Regs68.{Regs68}
use Rattle.m68_isa.specs.declared.ea.Ea.{Ea}
use Rattle.big_memory.specs.Memory.{Memory}
use Rattle.mix_bits.specs.Addresses.{backward}
use Rattle.m68_ea.specs.Places.{with_address}
use Rattle.m68_ea.specs.Operands.{sourced}
use Rattle.m68_effects.specs.Parts.{Effect, goes_on}
use Rattle.m68_arithmetic.specs.declared.ways.Way.{Way}
use Rattle.m68_arithmetic.specs.declared.ways.Way.TheVariants.{Onward, Backward}

-- the address n bytes away
abbrev pub away : Way → ℕ → ℕ → ℕ
away Onward a n = onward a n
away Backward a n = backward a n

-- an address register goes one way by a number, or by a source with its sign
abbrev pub with_away : Way → Regs68 → ℕ → ℕ → Regs68
with_away way r n by = with_address r n (away way (slice_index r.a n) by)

abbrev pub into_address : Way → Regs68 → Memory → ℕ → Size → Ea → ℕ → Effect
into_address way r m next size from n =
    sourced r m size from >>= λ (q, s).
    goes_on next (with_away way q n (sign_extended s size)) m
