-- A long that an instruction pushes.
use Rattle.std.specs.Prelude.{ℕ}
use Rattle.m68_isa.specs.declared.registers.Regs68.{Regs68}
use Rattle.big_memory.specs.Memory.{Memory}
use Rattle.mix_bits.specs.Results.{◌>>=◌}
use Rattle.m68_effects.specs.Parts.{Effect, goes_on, pushed}

-- a long that is pushed by an instruction with `next` behind it
abbrev pub pushes : Regs68 → Memory → ℕ → ℕ → Effect
pushes r m next value =
    pushed r m value >>= λ (q, n).
    goes_on next q n
